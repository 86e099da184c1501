-- Loops over the numbers below a bound, and lists that they fill.
use Rattle.std.proofs.Common.{◌≡◌, ◌≢◌, ℕ, zero, suc, ◌+◌, ◌<◌, ◌==◌, Bool, true, false, cond, List, [], ◌∷◌, ◌++◌, Bor, Option, Some, None, filter, get_or, length, length-take, map, take, refl, sym, ap, ◌∙◌, arith}
use Rattle.std.specs.Prelude.{slice_get, slice_set}
use Rattle.std.specs.List.{flat_map, position_from, range_with_len}
use Rattle.std.specs.Option.{option_map}
use Rattle.std.proofs.lemmas.Bool.Decides.{Decides-eqb}
use Rattle.std.proofs.lemmas.Grind.{get_or-set_at}
use Rattle.std.proofs.lemmas.List.{append-nil, flat_map_more, get_or-set_other, take_more}
use Rattle.std.proofs.lemmas.List.Elements.{filter-append}
use Rattle.std.proofs.lemmas.Option.{get_or_from_slice_get, slice_get-map, slice_get_read, slice_get_within}
use Rattle.metric_contents.specs.PlaceLaws.{or_else, position_from-push}
use Rattle.metric_exposition.specs.declared.section.Section.{Section}

-- the numbers below one more
range_more_from : (a n j : ℕ) → a + n ≡ j → range_with_len a (n + 1) ≡ range_with_len a n ++ j ∷ []
range_more_from a zero j e = let same : a ≡ j = omega arith in ap (λ x. x ∷ []) same
range_more_from a (suc n) j e =
    let longer : suc n + 1 ≡ suc (n + 1) = omega arith in
    rw longer (ap (λ xs. a ∷ xs) (range_more_from (a + 1) n j (omega arith)))

range_more : (n : ℕ) → range_with_len 0 (n + 1) ≡ range_with_len 0 n ++ n ∷ []
range_more n = range_more_from 0 n n (omega arith)

-- one number more
pub turn : {A : Type 0} (f : ℕ → List A) (n : ℕ) (old now next : List A) → now ≡ old ++ flat_map f (range_with_len 0 n) → next ≡ now ++ f n
    → next ≡ old ++ flat_map f (range_with_len 0 (n + 1))
turn f n old now next before after =
    after ∙ ap (λ xs. xs ++ f n) before ∙ flat_map_more f old (range_with_len 0 n) n ∙ ap (λ ns. old ++ flat_map f ns) (sym (range_more n))

same_turns_from : {A : Type 0} (f g : ℕ → List A) (a n : ℕ) → ((k : ℕ) → k < a + n → f k ≡ g k) → flat_map f (range_with_len a n) ≡ flat_map g (range_with_len a n)
same_turns_from f g a zero same = refl
same_turns_from f g a (suc n) same =
    ap (λ xs. xs ++ flat_map f (range_with_len (a + 1) n)) (same a (omega arith))
    ∙ ap (λ xs. g a ++ xs) (same_turns_from f g (a + 1) n (λ k low. same k (omega arith)))

pub same_turns : {A : Type 0} (f g : ℕ → List A) (n : ℕ) → ((k : ℕ) → k < n → f k ≡ g k) → flat_map f (range_with_len 0 n) ≡ flat_map g (range_with_len 0 n)
same_turns f g n same = same_turns_from f g 0 n (λ k low. same k (omega arith))

-- what is read of a list of references
pub got : (sections : List (Bor Section)) (n : ℕ) (item : Bor Section) → n < length sections → item ≡ get_or sections n item
    → slice_get (map (λ (s : Bor Section). s.now) sections) n ≡ Some item.now
got sections n item within is =
    slice_get-map (λ (s : Bor Section). s.now) sections n
    ∙ ap (λ (o : Option (Bor Section)). option_map (λ (s : Bor Section). s.now) o) (slice_get_read sections (length sections) n item refl within is)

pub empty_at : (sections : List (Bor Section)) (place : ℕ) → get_or (map {A = Bor Section} {B = List ℕ} (λ s. []) sections) place [] ≡ []
empty_at [] place = refl
empty_at (s ∷ sections) zero = refl
empty_at (s ∷ sections) (suc place) = empty_at sections place

pub first-more : (test : Section → Bool) (sections : List Section) (n : ℕ) (section : Section) → slice_get sections n ≡ Some section
    → position_from test 0 (take (n + 1) sections) ≡ or_else (position_from test 0 (take n sections)) (cond (test section) (Some n) None)
first-more test sections n section at =
    let within = slice_get_within sections n section at in
    let is = sym (get_or_from_slice_get sections n section section at) in
    let len : 0 + length (take n sections) ≡ n = omega (arith, length-take n sections) in
    let more : take (n + 1) sections ≡ take n sections ++ section ∷ [] = take_more sections n section within ∙ ap (λ (x : Section). take n sections ++ x ∷ []) (sym is) in
    let pushed = position_from-push test 0 (take n sections) section in
    rw more (rw len at pushed)

-- a number put last in the list that it belongs to
pub one_more : (lists : List (List ℕ)) (f : ℕ → ℕ) (first n place : ℕ) → first ≡ f n → place < length lists
    → get_or lists place [] ≡ filter (λ other. f other == place) (range_with_len 0 n)
    → get_or (slice_set lists first (get_or lists first [] ++ n ∷ [])) place [] ≡ filter (λ other. f other == place) (range_with_len 0 (n + 1))
one_more lists f first n place is low before = by (f n == place) refl
  where
    wanted : (b : Bool) → (f n == place) ≡ b → filter (λ other. f other == place) (range_with_len 0 (n + 1)) ≡ filter (λ other. f other == place) (range_with_len 0 n) ++ cond b (n ∷ []) []
    wanted b e =
        ap (filter (λ other. f other == place)) (range_more n)
        ∙ filter-append (λ other. f other == place) (range_with_len 0 n) (n ∷ [])
        ∙ ap (λ (d : Bool). filter (λ other. f other == place) (range_with_len 0 n) ++ cond d (n ∷ []) []) e

    by : (b : Bool) → (f n == place) ≡ b → get_or (slice_set lists first (get_or lists first [] ++ n ∷ [])) place [] ≡ filter (λ other. f other == place) (range_with_len 0 (n + 1))
    by true e =
        let here : place ≡ first = sym ((Decides-eqb (f n) place).0 e) ∙ sym is in
        get_or-set_at lists first place (get_or lists first [] ++ n ∷ []) [] here (omega (arith, here))
        ∙ ap (λ k. get_or lists k [] ++ n ∷ []) (sym here)
        ∙ ap (λ (xs : List ℕ). xs ++ n ∷ []) before
        ∙ sym (wanted true e)
    by false e =
        let other : place ≢ first = λ here. let wrong : true ≡ false = sym ((Decides-eqb (f n) place).1 (sym is ∙ sym here)) ∙ e in cc in
        get_or-set_other lists first place (get_or lists first [] ++ n ∷ []) [] other
        ∙ before
        ∙ sym (append-nil (filter (λ other. f other == place) (range_with_len 0 n)))
        ∙ sym (wanted false e)

-- what is read of a list, whatever stands for what it has not
pub get_default : {A : Type 0} (xs : List A) (n : ℕ) (x d : A) → x ≡ get_or xs n x → n < length xs → x ≡ get_or xs n d
get_default [] n x d is low = absurd (omega arith)
get_default (y ∷ xs) zero x d is low = is
get_default (y ∷ xs) (suc n) x d is low = get_default xs n x d is (omega arith)
