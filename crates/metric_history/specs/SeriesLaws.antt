-- Laws of distinct series, over plain lists of set keys.
use Rattle.std.proofs.Common.{◌≡◌, ℕ, zero, suc, ◌+◌, ◌<◌, ◌≤◌, Bool, true, false, not, ◌||◌, cond}
use Rattle.std.proofs.Common.{List, [], ◌∷◌, ◌++◌, length, take, drop, get_or, refl, sym, ap, subst}
use Rattle.std.proofs.Common.{◌∙◌, append_assoc, arith}
use Rattle.std.specs.Prelude.{fold, nat_lt}
use Rattle.std.specs.Str.{bytes_eq}
use Rattle.std.specs.List.{list_any}
use Rattle.std.proofs.lemmas.Bool.{or_parts, true≢false}
use Rattle.std.proofs.lemmas.Bool.Decides.{nat_tests}
use Rattle.std.proofs.lemmas.List.{append-nil, take_all, length_push, take-append-drop, map-append}
use Rattle.std.proofs.lemmas.List.{map_more, drop_more, length-map, take-append-le}
use Rattle.std.proofs.lemmas.List.Elements.{filter-append}
use Rattle.std.proofs.lemmas.List.Folds.{list_any-append, list_any_at}
use Rattle.std.proofs.lemmas.List.Sums.{fold-append, fold_push}
use Rattle.std.proofs.lemmas.Slice.Eq.{bytes_eq-Decides}
use Rattle.metric_history.specs.declared.entry.Entry.{Entry}
use Rattle.metric_history.specs.Series.{has, found_with, distinct, others, series, all_series}

pub same_key : (a b : List ℕ) → bytes_eq a b ≡ true → a ≡ b
same_key a b e = (bytes_eq-Decides a b).0 e

pub key_is_same : (a : List ℕ) → bytes_eq a a ≡ true
key_is_same a = (bytes_eq-Decides a a).1 refl

or_nothing : (b : Bool) → (b || false) ≡ b
or_nothing true = refl
or_nothing false = refl

or_regroup : (a b c : Bool) → ((a || b) || c) ≡ (a || (b || c))
or_regroup true b c = refl
or_regroup false b c = refl

or_same : (a b : Bool) → (b ≡ true → a ≡ true) → a ≡ (a || b)
or_same true b h = refl
or_same false true h = h refl
or_same false false h = refl

-- a key is there after one more was found where it was there before, or is that key
has-found_with : (found : List (List ℕ)) (x key : List ℕ)
    → has (found_with found x) key ≡ (has found key || bytes_eq x key)
has-found_with found x key = at (has found x) refl
  where
    at : (b : Bool) → has found x ≡ b
        → has (cond b found (found ++ x ∷ [])) key ≡ (has found key || bytes_eq x key)
    at true e =
        or_same (has found key) (bytes_eq x key)
        (λ s. subst (λ (k : List ℕ). has found k ≡ true) (same_key x key s) e)
    at false e =
        list_any-append (λ (other : List ℕ). bytes_eq other key) found (x ∷ [])
        ∙ ap (λ (b : Bool). has found key || b) (or_nothing (bytes_eq x key))

has-fold : (keys found : List (List ℕ)) (key : List ℕ)
    → has (fold found_with found keys) key ≡ (has found key || has keys key)
has-fold [] found key = sym (or_nothing (has found key))
has-fold (x ∷ keys) found key =
    has-fold keys (found_with found x) key
    ∙ ap (λ (b : Bool). b || has keys key) (has-found_with found x key)
    ∙ or_regroup (has found key) (bytes_eq x key) (has keys key)

-- the distinct keys are the keys
pub has-distinct : (keys : List (List ℕ)) (key : List ℕ) → has (distinct keys) key ≡ has keys key
has-distinct keys key = has-fold keys [] key

abbrev Grows : List (List ℕ) → List (List ℕ) → Type 0
Grows keys found = (more : List (List ℕ)) × (fold found_with found keys ≡ found ++ more)

-- what was found stays in front
grows : (keys found : List (List ℕ)) → Grows keys found
grows [] found = ([], sym (append-nil found))
grows (x ∷ keys) found = at (has found x) (grows keys)
  where
    longer : Grows keys (found ++ x ∷ [])
        → (more : List (List ℕ)) × (fold found_with (found ++ x ∷ []) keys ≡ found ++ more)
    longer m = (x ∷ m.0, m.1 ∙ append_assoc found (x ∷ []) m.0)

    at : (b : Bool) → ((f : List (List ℕ)) → Grows keys f) → (more : List (List ℕ))
        × (fold found_with (cond b found (found ++ x ∷ [])) keys ≡ found ++ more)
    at true rest = rest found
    at false rest = longer (rest (found ++ x ∷ []))

length-found_with : (found : List (List ℕ)) (key : List ℕ)
    → length (found_with found key) ≤ length found + 1
length-found_with found key = at (has found key)
  where
    at : (b : Bool) → length (cond b found (found ++ key ∷ [])) ≤ length found + 1
    at true = omega arith
    at false = omega (arith, length_push found key)

length-fold : (keys found : List (List ℕ))
    → length (fold found_with found keys) ≤ length found + length keys
length-fold [] found = omega arith
length-fold (x ∷ keys) found =
    omega (arith, length-fold keys (found_with found x), length-found_with found x)

has_first : (limit : ℕ) (found : List (List ℕ)) (key : List ℕ) (more : List (List ℕ))
    → has found key ≡ false
    → has (take limit (found ++ key ∷ more)) key ≡ nat_lt (length found) limit
has_first zero found key more h = grind (arith, nat_tests)
has_first (suc n) [] key more h =
    ap (λ (b : Bool). b || has (take n more) key) (key_is_same key) ∙ grind (arith, nat_tests)
has_first (suc n) (x ∷ found) key more h =
    let parts = or_parts (bytes_eq x key) (has found key) h in
    ap (λ (b : Bool). b || has (take n (found ++ key ∷ more)) key) parts.0
    ∙ has_first n found key more parts.1 ∙ grind (arith, nat_tests)

has_late : (limit : ℕ) (found : List (List ℕ)) (key : List ℕ) (more : List (List ℕ))
    → has found key ≡ false → limit ≤ length found → has (take limit (found ++ more)) key ≡ false
has_late zero found key more h l = refl
has_late (suc n) [] key more h l = absurd (omega arith)
has_late (suc n) (x ∷ found) key more h l =
    let parts = or_parts (bytes_eq x key) (has found key) h in
    ap (λ (b : Bool). b || has (take n (found ++ more)) key) parts.0
    ∙ has_late n found key more parts.1 (omega arith)

pub found_new : (found : List (List ℕ)) (key : List ℕ) → has found key ≡ false
    → found_with found key ≡ found ++ key ∷ []
found_new found key h = ap (λ (b : Bool). cond b found (found ++ key ∷ [])) h

pub found_old : (found : List (List ℕ)) (key : List ℕ) → has found key ≡ true
    → found_with found key ≡ found
found_old found key h = ap (λ (b : Bool). cond b found (found ++ key ∷ [])) h

-- a key that comes first here is among the first ones where fewer came before it
pub has_place-here : (limit : ℕ) (before : List (List ℕ)) (key : List ℕ) (after : List (List ℕ))
    → has before key ≡ false
    → has (take limit (distinct (before ++ key ∷ after))) key
    ≡ nat_lt (length (distinct before)) limit
has_place-here limit before key after h =
    let new : has (distinct before) key ≡ false = has-distinct before key ∙ h in
    let first = fold-append found_with [] before (key ∷ after) in
    let second = ap (λ (found : List (List ℕ)). fold found_with found after)
    (found_new (distinct before) key new) in
    let third = grows after (distinct before ++ key ∷ []) in
    ap (λ (keys : List (List ℕ)). has (take limit keys) key)
    (first ∙ second ∙ third.1 ∙ append_assoc (distinct before) (key ∷ []) third.0)
    ∙ has_first limit (distinct before) key third.0 new

-- a key that comes after as many others is not
pub has_place-late : (limit : ℕ) (before : List (List ℕ)) (key : List ℕ) (after : List (List ℕ))
    → has before key ≡ false → limit ≤ length (distinct before)
    → has (take limit (distinct (before ++ after))) key ≡ false
has_place-late limit before key after h l =
    let new : has (distinct before) key ≡ false = has-distinct before key ∙ h in
    let first = fold-append found_with [] before after in
    let second = grows after (distinct before) in
    ap (λ (keys : List (List ℕ)). has (take limit keys) key) (first ∙ second.1)
    ∙ has_late limit (distinct before) key second.0 new l

-- each of a few keys is among the first ones
pub has_place-short : (limit : ℕ) (keys : List (List ℕ)) (key : List ℕ) → length keys < limit
    → has (take limit (distinct (keys ++ key ∷ []))) key ≡ true
has_place-short limit keys key l =
    let few : length (distinct (keys ++ key ∷ [])) ≤ limit =
    omega (arith, length-fold (keys ++ key ∷ []) [], length_push keys key) in
    ap (λ (found : List (List ℕ)). has found key) (take_all limit (distinct (keys ++ key ∷ [])) few)
    ∙ has-distinct (keys ++ key ∷ []) key
    ∙ list_any-append (λ (other : List ℕ). bytes_eq other key) keys (key ∷ [])
    ∙ ap (λ (b : Bool). has keys key || (b || false)) (key_is_same key)
    ∙ or_true (has keys key)
  where
    or_true : (b : Bool) → (b || true) ≡ true
    or_true true = refl
    or_true false = refl

-- more keys change nothing of whether a key that was found is among the first ones
has_take-append : (limit : ℕ) (found more : List (List ℕ)) (key : List ℕ) → has found key ≡ true
    → has (take limit (found ++ more)) key ≡ has (take limit found) key
has_take-append zero found more key h = refl
has_take-append (suc n) [] more key h = absurd (true≢false (sym h))
has_take-append (suc n) (x ∷ found) more key h =
    at (bytes_eq x key) h (has_take-append n found more key)
  where
    at : (b : Bool) → (b || has found key) ≡ true
        → (has found key ≡ true → has (take n (found ++ more)) key ≡ has (take n found) key)
        → (b || has (take n (found ++ more)) key) ≡ (b || has (take n found) key)
    at true e rest = refl
    at false e rest = rest e

pub has_place-append : (limit : ℕ) (keys rest : List (List ℕ)) (key : List ℕ) → has keys key ≡ true
    → has (take limit (distinct (keys ++ rest))) key ≡ has (take limit (distinct keys)) key
has_place-append limit keys rest key h =
    let first = fold-append found_with [] keys rest in
    let second = grows rest (distinct keys) in
    ap (λ (found : List (List ℕ)). has (take limit found) key) (first ∙ second.1)
    ∙ has_take-append limit (distinct keys) second.0 key (has-distinct keys key ∙ h)

-- the first ones are some of them
has_take : (limit : ℕ) (found : List (List ℕ)) (key : List ℕ) → has (take limit found) key ≡ true
    → has found key ≡ true
has_take zero found key h = absurd (true≢false (sym h))
has_take (suc n) [] key h = h
has_take (suc n) (x ∷ found) key h = at (bytes_eq x key) h (has_take n found key)
  where
    at : (b : Bool) → (b || has (take n found) key) ≡ true
        → (has (take n found) key ≡ true → has found key ≡ true) → (b || has found key) ≡ true
    at true e rest = refl
    at false e rest = rest e

pub place_has : (limit : ℕ) (keys : List (List ℕ)) (key : List ℕ)
    → has (take limit (distinct keys)) key ≡ true → has keys key ≡ true
place_has limit keys key h = sym (has-distinct keys key) ∙ has_take limit (distinct keys) key h

-- one more key
pub distinct_push : (keys : List (List ℕ)) (key : List ℕ)
    → distinct (keys ++ key ∷ []) ≡ found_with (distinct keys) key
distinct_push keys key = fold_push found_with [] keys key

pub distinct-old : (keys : List (List ℕ)) (key : List ℕ) → has keys key ≡ true
    → distinct (keys ++ key ∷ []) ≡ distinct keys
distinct-old keys key h =
    distinct_push keys key ∙ found_old (distinct keys) key (has-distinct keys key ∙ h)

pub distinct-new : (keys : List (List ℕ)) (key : List ℕ) → has keys key ≡ false
    → distinct (keys ++ key ∷ []) ≡ distinct keys ++ key ∷ []
distinct-new keys key h =
    distinct_push keys key ∙ found_new (distinct keys) key (has-distinct keys key ∙ h)

-- a series is among those of the recordings where some recording is of it
pub has_all_series : (kept : List Bool) (entries : List Entry) (key : List ℕ)
    → has (all_series kept entries) key
    ≡ list_any (λ (entry : Entry). bytes_eq (series kept entry) key) entries
has_all_series kept [] key = refl
has_all_series kept (e ∷ entries) key =
    ap (λ (b : Bool). bytes_eq (series kept e) key || b) (has_all_series kept entries key)

-- The same laws at the recordings of a window.
all_series_split : (kept : List Bool) (entries : List Entry) (i : ℕ) (d : Entry)
    → i < length entries
    → all_series kept entries ≡ all_series kept (take i entries) ++ series kept (get_or entries i d)
    ∷ all_series kept (drop (i + 1) entries)
all_series_split kept entries i d l =
    ap (all_series kept) (sym (take-append-drop i entries))
    ∙ map-append (series kept) (take i entries) (drop i entries)
    ∙ ap (λ (rest : List Entry). all_series kept (take i entries) ++ all_series kept rest)
    (drop_more entries i d l)

-- a series whose first recording is here
pub place_here : (kept : List Bool) (limit : ℕ) (entries : List Entry) (i : ℕ) (d : Entry)
    (x key : List ℕ) → x ≡ series kept (get_or entries i d) → i < length entries
    → has (all_series kept (take i entries)) key ≡ false → true ≡ bytes_eq x key
    → nat_lt (length (distinct (all_series kept (take i entries)))) limit
    ≡ has (take limit (distinct (all_series kept entries ++ key ∷ []))) key
place_here kept limit entries i d x key is l new same =
    let split = all_series_split kept entries i d l in
    let here : series kept (get_or entries i d) ≡ key = sym is ∙ same_key x key (sym same) in
    let rest : List (List ℕ) = all_series kept (drop (i + 1) entries) in
    let whole : all_series kept entries ++ key ∷ []
    ≡ all_series kept (take i entries) ++ key ∷ (rest ++ key ∷ []) =
    ap (λ (keys : List (List ℕ)). keys ++ key ∷ [])
    (split ∙ ap (λ (k : List ℕ). all_series kept (take i entries) ++ k ∷ rest) here)
    ∙ append_assoc (all_series kept (take i entries)) (key ∷ rest) (key ∷ []) in
    sym (ap (λ (keys : List (List ℕ)). has (take limit (distinct keys)) key) whole
    ∙ has_place-here limit (all_series kept (take i entries)) key (rest ++ key ∷ []) new)

-- a series that would come next
pub place_next : (kept : List Bool) (limit : ℕ) (entries : List Entry) (key : List ℕ)
    → has (all_series kept entries) key ≡ false
    → nat_lt (length (distinct (all_series kept entries))) limit
    ≡ has (take limit (distinct (all_series kept entries ++ key ∷ []))) key
place_next kept limit entries key new =
    sym (has_place-here limit (all_series kept entries) key [] new)

-- no place is left before it comes
pub place_late : (kept : List Bool) (limit : ℕ) (entries : List Entry) (i : ℕ) (key : List ℕ)
    → has (all_series kept (take i entries)) key ≡ false
    → limit ≤ length (distinct (all_series kept (take i entries)))
    → false ≡ has (take limit (distinct (all_series kept entries ++ key ∷ []))) key
place_late kept limit entries i key new l =
    let rest : List (List ℕ) = all_series kept (drop i entries) ++ key ∷ [] in
    let whole : all_series kept entries ++ key ∷ [] ≡ all_series kept (take i entries) ++ rest =
    ap (λ (keys : List (List ℕ)). keys ++ key ∷ []) (ap (all_series kept)
    (sym (take-append-drop i entries)) ∙ map-append (series kept) (take i entries) (drop i entries))
    ∙ append_assoc (all_series kept (take i entries))
    (all_series kept (drop i entries)) (key ∷ []) in
    sym (ap (λ (keys : List (List ℕ)). has (take limit (distinct keys)) key) whole
    ∙ has_place-late limit (all_series kept (take i entries)) key rest new l)

-- fewer recordings than places
pub place_short : (kept : List Bool) (limit : ℕ) (entries : List Entry) (key : List ℕ)
    → length entries < limit
    → true ≡ has (take limit (distinct (all_series kept entries ++ key ∷ []))) key
place_short kept limit entries key l =
    sym (has_place-short limit (all_series kept entries) key
    (omega (arith, length-map entries (series kept))))

-- a recording more
pub all_series_more : (kept : List Bool) (entries : List Entry) (i : ℕ) (d : Entry)
    → i < length entries
    → all_series kept (take (i + 1) entries)
    ≡ all_series kept (take i entries) ++ series kept (get_or entries i d) ∷ []
all_series_more kept entries i d l = map_more (series kept) entries i d l

pub has_more : (kept : List Bool) (entries : List Entry) (i : ℕ) (d : Entry) (x key : List ℕ)
    → x ≡ series kept (get_or entries i d) → i < length entries
    → has (all_series kept (take i entries)) key ≡ false → false ≡ bytes_eq x key
    → has (all_series kept (take (i + 1) entries)) key ≡ false
has_more kept entries i d x key is l before here =
    ap (λ (keys : List (List ℕ)). has keys key) (all_series_more kept entries i d l)
    ∙ list_any-append (λ (other : List ℕ). bytes_eq other key) (all_series kept (take i entries))
    (series kept (get_or entries i d) ∷ [])
    ∙ ap (λ (b : Bool). b || (bytes_eq (series kept (get_or entries i d)) key || false)) before
    ∙ ap (λ (k : List ℕ). bytes_eq k key || false) (sym is)
    ∙ ap (λ (b : Bool). b || false) (sym here)

-- the places with one recording more, where its series was among the earlier ones or not
pub places_more : (kept : List Bool) (entries : List Entry) (i : ℕ) (d : Entry) (x : List ℕ)
    (b : Bool) → x ≡ series kept (get_or entries i d) → i < length entries
    → b ≡ list_any (λ (entry : Entry). bytes_eq (series kept entry) x) (take i entries)
    → length (distinct (all_series kept (take (i + 1) entries)))
    ≡ length (distinct (all_series kept (take i entries))) + cond b 0 1
places_more kept entries i d x b is l known =
    let keys : List (List ℕ) = all_series kept (take i entries) in
    let told : has keys x ≡ b = has_all_series kept (take i entries) x ∙ sym known in
    ap (λ (keys : List (List ℕ)). length (distinct keys))
    (all_series_more kept entries i d l ∙ ap (λ (k : List ℕ). keys ++ k ∷ []) (sym is))
    ∙ ap length (distinct_push keys x)
    ∙ at b (has-distinct keys x ∙ told)
  where
    at : (t : Bool) → has (distinct (all_series kept (take i entries))) x ≡ t
        → length (found_with (distinct (all_series kept (take i entries))) x)
        ≡ length (distinct (all_series kept (take i entries))) + cond t 0 1
    at true h =
        ap length (found_old (distinct (all_series kept (take i entries))) x h) ∙ omega arith
    at false h =
        ap length (found_new (distinct (all_series kept (take i entries))) x h)
        ∙ length_push (distinct (all_series kept (take i entries))) x

-- a series that the recordings have keeps its place with one more of it
pub known_place : (kept : List Bool) (limit : ℕ) (entries : List Entry) (key : List ℕ)
    → has (all_series kept entries) key ≡ true
    → has (take limit (distinct (all_series kept entries ++ key ∷ []))) key
    ≡ has (take limit (distinct (all_series kept entries))) key
known_place kept limit entries key known =
    ap (λ (keys : List (List ℕ)). has (take limit keys) key)
    (distinct-old (all_series kept entries) key known)

-- the series of a recording is one of theirs
pub has_own_series : (kept : List Bool) (entries : List Entry) (i : ℕ) (d : Entry)
    → i < length entries → has (all_series kept entries) (series kept (get_or entries i d)) ≡ true
has_own_series kept entries i d l =
    has_all_series kept entries (series kept (get_or entries i d))
    ∙ list_any_at
    (λ (entry : Entry). bytes_eq (series kept entry) (series kept (get_or entries i d))) entries i d
    l (key_is_same (series kept (get_or entries i d)))

-- a key that finds no place changes nothing
pub held_same : (limit : ℕ) (keys : List (List ℕ)) (key : List ℕ)
    → has (take limit (distinct (keys ++ key ∷ []))) key ≡ false
    → take limit (distinct (keys ++ key ∷ [])) ≡ take limit (distinct keys)
held_same limit keys key out = at (has keys key) refl
  where
    full : has keys key ≡ false → limit ≤ length (distinct keys)
    full new =
        let test : nat_lt (length (distinct keys)) limit ≡ false =
        sym (has_place-here limit keys key [] new) ∙ out in grind (arith, nat_tests)

    at : (b : Bool) → has keys key ≡ b
        → take limit (distinct (keys ++ key ∷ [])) ≡ take limit (distinct keys)
    at true known = ap (take limit) (distinct-old keys key known)
    at false new =
        ap (take limit) (distinct-new keys key new)
        ∙ take-append-le limit (distinct keys) (key ∷ []) (full new)

has_others : (key x : List ℕ) (found : List (List ℕ)) → bytes_eq key x ≡ false
    → has (others key found) x ≡ has found x
has_others key x [] other = refl
has_others key x (y ∷ found) other = at (bytes_eq y key) refl (has_others key x found other)
  where
    at : (b : Bool) → bytes_eq y key ≡ b → has (others key found) x ≡ has found x → has
        (cond (not b) (y ∷ others key found) (others key found)) x ≡ (bytes_eq y x || has found x)
    at true e rest =
        rest ∙ ap (λ (t : Bool). t || has found x)
        (sym (ap (λ (k : List ℕ). bytes_eq k x) (same_key y key e) ∙ other))
    at false e rest = ap (λ (t : Bool). bytes_eq y x || t) rest

others-push : (key x : List ℕ) (found : List (List ℕ)) (b : Bool) → bytes_eq x key ≡ b
    → others key (found ++ x ∷ []) ≡ others key found ++ cond (not b) (x ∷ []) []
others-push key x found b e =
    filter-append (λ (other : List ℕ). not (bytes_eq other key)) found (x ∷ [])
    ∙ ap (λ (t : Bool). others key found ++ cond (not t) (x ∷ []) []) e

found_with-others : (key x : List ℕ) (found : List (List ℕ))
    → found_with (key ∷ others key found) x ≡ key ∷ others key (found_with found x)
found_with-others key x found = at (bytes_eq key x) refl
  where
    same : bytes_eq x key ≡ true → (b : Bool)
        → others key found ≡ others key (cond b found (found ++ x ∷ []))
    same e true = refl
    same e false = sym (others-push key x found true e ∙ append-nil (others key found))

    unlike : bytes_eq key x ≡ false → (b : Bool) → bytes_eq x key ≡ b → bytes_eq x key ≡ false
    unlike other true e =
        absurd (true≢false (sym (ap (bytes_eq key) (same_key x key e) ∙ key_is_same key) ∙ other))
    unlike other false e = e

    new : bytes_eq x key ≡ false → (b : Bool) → cond b (key ∷ others key found)
        ((key ∷ others key found) ++ x ∷ []) ≡ key ∷ others key (cond b found (found ++ x ∷ []))
    new e true = refl
    new e false = ap (λ (ks : List (List ℕ)). key ∷ ks) (sym (others-push key x found false e))

    at : (b : Bool) → bytes_eq key x ≡ b
        → cond (b || has (others key found) x) (key ∷ others key found)
        ((key ∷ others key found) ++ x ∷ []) ≡ key ∷ others key (found_with found x)
    at true e =
        ap (λ (ks : List (List ℕ)). key ∷ ks)
        (same (ap (λ (k : List ℕ). bytes_eq x k) (same_key key x e) ∙ key_is_same x) (has found x))
    at false e =
        ap (λ (t : Bool). cond t (key ∷ others key found) ((key ∷ others key found) ++ x ∷ []))
        (has_others key x found e)
        ∙ new (unlike e (bytes_eq x key) refl) (has found x)

distinct_from : (keys found : List (List ℕ)) (key : List ℕ)
    → fold found_with (key ∷ others key found) keys ≡ key ∷ others key (fold found_with found keys)
distinct_from [] found key = refl
distinct_from (x ∷ keys) found key =
    ap (λ (fs : List (List ℕ)). fold found_with fs keys) (found_with-others key x found)
    ∙ distinct_from keys (found_with found x) key

-- the first key, and the distinct ones among the others
pub distinct-cons : (key : List ℕ) (keys : List (List ℕ))
    → distinct (key ∷ keys) ≡ key ∷ others key (distinct keys)
distinct-cons key keys = distinct_from keys [] key
