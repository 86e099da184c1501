-- Attributes in another order name the same set key.
use Rattle.std.proofs.lemmas.Bool.{or_parts}
use Rattle.std.proofs.Common.{◌≡◌, ℕ, ◌+◌, ◌≤◌, Bool, true, false, cond, not, ◌&&◌, ◌||◌, List, [], ◌∷◌, ◌++◌, ◌-◌, length, map, replicate, find, Option, Some, None, unwrap_or, Result, Ok, refl, sym, ap, subst, ◌∙◌, arith, slice_get, true≢false}
use Rattle.std.proofs.lemmas.Slice.Eq.{bytes_eq-Decides}
use Rattle.std.proofs.lemmas.List.Sorted.{list_any-IsPermutation, sum_by-IsPermutation}
use Rattle.std.proofs.lemmas.List.Sums.{sum_by-cons}
use Rattle.std.specs.List.{list_any, list_all, count_by}
use Rattle.std.specs.Option.{option_map}
use Rattle.std.specs.Str.{bytes_eq}
use Rattle.std.specs.List.Sorted.{IsPermutation}
use Rattle.metric_base.specs.Steps.{◌>>=◌, require, require_some}
use Rattle.metric_names.specs.declared.value.AttrValue.{AttrValue}
use Rattle.metric_contents.specs.declared.contents.Instrument.{Instrument}
use Rattle.metric_contents.specs.declared.contents.Key.{Key}
use Rattle.metric_contents.specs.declared.refusal.Refusal.{Refusal}
use Rattle.metric_contents.specs.declared.refusal.Refusal.TheVariants.{UnknownInstrument, DuplicateKey, UnknownKey, UnknownValue, MissingKey}
use Rattle.metric_contents.specs.Encoding.{Given, allowed_set, encode_of, entry_at, entry_of, has_declared_value, has_repeated_key, is_complete, is_declared, is_of, permitted, set_of}
use Rattle.metric_contents.specs.Places.{place, same_value}
use Rattle.metric_contents.proofs.Differing.{repeated_same}
use Rattle.metric_contents.specs.SameValues.{same_value-Decides}

-- how many of one more element
count_by-cons : {X : Type 0} (p : X → Bool) (x : X) (xs : List X) → count_by p (x ∷ xs) ≡ cond (p x) 1 0 + count_by p xs
count_by-cons p x xs = sum_by-cons (λ y. cond (p y) 1 0) x xs

count_by-yes : {X : Type 0} (p : X → Bool) (x : X) (xs : List X) → p x ≡ true → count_by p (x ∷ xs) ≡ 1 + count_by p xs
count_by-yes p x xs h = count_by-cons p x xs ∙ ap (λ (c : Bool). cond c 1 0 + count_by p xs) h

count_by-no : {X : Type 0} (p : X → Bool) (x : X) (xs : List X) → p x ≡ false → count_by p (x ∷ xs) ≡ 0 + count_by p xs
count_by-no p x xs h = count_by-cons p x xs ∙ ap (λ (c : Bool). cond c 1 0 + count_by p xs) h

-- where none passes, none passes with a second test
none_pass : {X : Type 0} (p q : X → Bool) (xs : List X) → count_by p xs ≡ 0 → list_any (λ x. p x && q x) xs ≡ false
none_pass p q [] e = refl
none_pass p q (x ∷ xs) e = by (p x) refl (λ h. none_pass p q xs h)
  where
    by : (b : Bool) → p x ≡ b → (count_by p xs ≡ 0 → list_any (λ y. p y && q y) xs ≡ false) → ((b && q x) || list_any (λ y. p y && q y) xs) ≡ false
    by true h rest = let more = count_by-yes p x xs h in absurd (omega arith)
    by false h rest = let more = count_by-no p x xs h in rest (omega arith)

-- where at most one passes, a second test holds of some that passes exactly where it holds of the one that is found
any_found : {X : Type 0} (p q : X → Bool) (xs : List X) (a : X) → count_by p xs ≤ 1 → find p xs ≡ Some a → list_any (λ x. p x && q x) xs ≡ q a
any_found p q [] a few e = absurd cc
any_found p q (x ∷ xs) a few e = by (p x) refl (λ h f. any_found p q xs a h f) e
  where
    or_false : (b : Bool) → (b || false) ≡ b
    or_false true = refl
    or_false false = refl

    by : (b : Bool) → p x ≡ b → (count_by p xs ≤ 1 → find p xs ≡ Some a → list_any (λ y. p y && q y) xs ≡ q a) → cond b (Some x) (find p xs) ≡ Some a
        → ((b && q x) || list_any (λ y. p y && q y) xs) ≡ q a
    by true h rest f =
        let more = count_by-yes p x xs h in
        let none : list_any (λ y. p y && q y) xs ≡ false = none_pass p q xs (omega arith) in
        let same : x ≡ a = cc in
        rw none (or_false (q x) ∙ ap q same)
    by false h rest f =
        let more = count_by-no p x xs h in
        rest (omega arith) f

-- a test finds an element exactly where some element passes
found_any : {X : Type 0} (p : X → Bool) (xs : List X) (a : X) → find p xs ≡ Some a → list_any p xs ≡ true
found_any p [] a e = absurd cc
found_any p (x ∷ xs) a e = by (p x) (λ f. found_any p xs a f) e
  where
    by : (b : Bool) → (find p xs ≡ Some a → list_any p xs ≡ true) → cond b (Some x) (find p xs) ≡ Some a → (b || list_any p xs) ≡ true
    by true rest f = refl
    by false rest f = rest f

not_found_any : {X : Type 0} (p : X → Bool) (xs : List X) → find p xs ≡ None → list_any p xs ≡ false
not_found_any p [] e = refl
not_found_any p (x ∷ xs) e = by (p x) (λ f. not_found_any p xs f) e
  where
    by : (b : Bool) → (find p xs ≡ None → list_any p xs ≡ false) → cond b (Some x) (find p xs) ≡ None → (b || list_any p xs) ≡ false
    by true rest f = absurd cc
    by false rest f = rest f

-- all pass exactly where none fails
all_none : {X : Type 0} (p : X → Bool) (xs : List X) → list_all p xs ≡ not (list_any (λ x. not (p x)) xs)
all_none p [] = refl
all_none p (x ∷ xs) = by (p x) (all_none p xs)
  where
    by : (b : Bool) → list_all p xs ≡ not (list_any (λ y. not (p y)) xs) → (b && list_all p xs) ≡ not (not b || list_any (λ y. not (p y)) xs)
    by true e = e
    by false e = refl

-- no test of a list that none passes counts an element
none_counted : {X : Type 0} (p : X → Bool) (xs : List X) → list_any p xs ≡ false → count_by p xs ≡ 0
none_counted p [] e = refl
none_counted p (x ∷ xs) e =
    let (none, later) = or_parts (p x) (list_any p xs) e in
    count_by-no p x xs none ∙ ap (λ (n : ℕ). 0 + n) (none_counted p xs later) ∙ omega arith

-- where no key stands twice, at most one attribute is of a key
few_of : (attrs : List Given) (name : List ℕ) → has_repeated_key attrs ≡ false → count_by (is_of name) attrs ≤ 1
few_of [] name e = omega arith
few_of (given ∷ attrs) name e =
    let (alone, later) = or_parts (list_any (is_of given.0) attrs) (has_repeated_key attrs) e in
    by (bytes_eq given.0 name) refl alone (few_of attrs name later)
  where
    by : (here : Bool) → bytes_eq given.0 name ≡ here → list_any (is_of given.0) attrs ≡ false → count_by (is_of name) attrs ≤ 1 → count_by (is_of name) (given ∷ attrs) ≤ 1
    by true h alone rest =
        let named : given.0 ≡ name = (bytes_eq-Decides given.0 name).0 h in
        let none : count_by (is_of name) attrs ≡ 0 = none_counted (is_of name) attrs (subst (λ (n : List ℕ). list_any (is_of n) attrs ≡ false) named alone) in
        let one = count_by-yes (is_of name) given attrs h in
        omega arith
    by false h alone rest = let one = count_by-no (is_of name) given attrs h in omega arith

-- the steps of a set key, from what they test and what they give
abbrev pub steps : Bool → Bool → Bool → Bool → List ℕ → Result (List ℕ) Refusal
steps repeated declared valued complete set = do
  _ ← require (not repeated) DuplicateKey
  _ ← require declared UnknownKey
  _ ← require valued UnknownValue
  _ ← require complete MissingKey
  Ok set

module _ (xs ys : List Given) (perm : IsPermutation xs ys) where
  all_same : (p : Given → Bool) → list_all p xs ≡ list_all p ys
  all_same p = all_none p xs ∙ ap not (list_any-IsPermutation (λ x. not (p x)) xs ys perm) ∙ sym (all_none p ys)

  count_same : (p : Given → Bool) → count_by p xs ≡ count_by p ys
  count_same p = sym (sum_by-IsPermutation (λ x. cond (p x) 1 0) xs ys perm)

  complete_same : (keys : List Key) → list_all (is_complete xs) keys ≡ list_all (is_complete ys) keys
  complete_same keys = λ i. list_all (λ key. key.optional || list_any-IsPermutation (is_of key.name) xs ys perm i) keys

  -- where no key stands twice, a key is given the same value in both orders
  entry_same : has_repeated_key xs ≡ false → (key : Key) → entry_at xs key ≡ entry_at ys key
  entry_same distinct key = by (find (is_of key.name) xs) refl (find (is_of key.name) ys) refl
    where
      any_same : list_any (is_of key.name) xs ≡ list_any (is_of key.name) ys
      any_same = list_any-IsPermutation (is_of key.name) xs ys perm

      value_same : (a b : Given) → find (is_of key.name) xs ≡ Some a → find (is_of key.name) ys ≡ Some b → a.1 ≡ b.1
      value_same a b e f =
          let few_xs = few_of xs key.name distinct in
          let few_ys : count_by (is_of key.name) ys ≤ 1 = subst (λ (n : ℕ). n ≤ 1) (count_same (is_of key.name)) few_xs in
          let q : Given → Bool = λ g. same_value g.1 b.1 in
          let by_xs = any_found (is_of key.name) q xs a few_xs e in
          let by_ys = any_found (is_of key.name) q ys b few_ys f in
          let both = list_any-IsPermutation (λ g. is_of key.name g && q g) xs ys perm in
          (same_value-Decides a.1 b.1).0 (sym by_xs ∙ both ∙ by_ys ∙ (same_value-Decides b.1 b.1).1 refl)

      by : (o : Option Given) → find (is_of key.name) xs ≡ o → (r : Option Given) → find (is_of key.name) ys ≡ r → entry_of key o ≡ entry_of key r
      by None e None f = refl
      by None e (Some b) f = let no = not_found_any (is_of key.name) xs e in let yes = found_any (is_of key.name) ys b f in absurd (true≢false (sym yes ∙ sym any_same ∙ no))
      by (Some a) e None f = let yes = found_any (is_of key.name) xs a e in let no = not_found_any (is_of key.name) ys f in absurd (true≢false (sym yes ∙ any_same ∙ no))
      by (Some a) e (Some b) f = ap (λ (value : AttrValue). option_map (λ number. number + 1) (place key.values value)) (value_same a b e f)

  set_of_by : (b : Bool) → has_repeated_key xs ≡ b → (keys : List Key) → set_of keys xs ≡ set_of keys ys
  unfolding set_of
  set_of_by true e keys = let also : has_repeated_key ys ≡ true = sym (repeated_same xs ys perm) ∙ e in rw (e, also) refl
  set_of_by false e keys = λ i. steps (repeated_same xs ys perm i) (all_same (is_declared keys) i) (all_same (has_declared_value keys) i) (complete_same keys i)
      (map (λ key. unwrap_or (entry_same e key i) 0) keys ++ replicate (8 - length keys) 0)

  encode_by : (o : Option Instrument) → (require_some o UnknownInstrument >>= λ instrument. allowed_set instrument xs) ≡ (require_some o UnknownInstrument >>= λ instrument. allowed_set instrument ys)
  unfolding allowed_set
  encode_by None = refl
  encode_by (Some instrument) = λ i. set_of_by (has_repeated_key xs) refl instrument.keys i >>= permitted instrument.allowed

  -- the same set key, or the same refusal
  pub encode_same : (instruments : List Instrument) (number : ℕ) → encode_of instruments number xs ≡ encode_of instruments number ys
  unfolding encode_of
  encode_same instruments number = encode_by (slice_get instruments number)
