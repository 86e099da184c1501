-- So many labels have at least so many keys.
use Rattle.std.proofs.Common.{◌≡◌, ◌≢◌, ℕ, zero, suc, ◌+◌, ◌*◌, ◌<◌, ◌≤◌, Bool, true, false, cond, ◌||◌, List, [], ◌∷◌, length, refl, sym, ap, ◌∙◌, arith}
use Rattle.std.specs.Str.{bytes_eq}
use Rattle.std.proofs.lemmas.Slice.Eq.{bytes_eq-Decides}
use Rattle.metric_family.specs.Words.{is_among}
use Rattle.metric_exposure.specs.Renames.{exported}

-- a list without the first that is this
without_one : List ℕ → List (List ℕ) → List (List ℕ)
without_one y [] = []
without_one y (x ∷ xs) = cond (bytes_eq y x) xs (x ∷ without_one y xs)

shorter : (y : List ℕ) (xs : List (List ℕ)) → is_among xs y ≡ true → length (without_one y xs) + 1 ≡ length xs
unfolding without_one
shorter y [] e = absurd cc
shorter y (x ∷ xs) e = by (bytes_eq y x) e (shorter y xs)
  where
    by : (b : Bool) → (b || is_among xs y) ≡ true → (is_among xs y ≡ true → length (without_one y xs) + 1 ≡ length xs)
        → length (cond b xs (x ∷ without_one y xs)) + 1 ≡ suc (length xs)
    by true e later = omega arith
    by false e later = let one = later e in omega arith

still_there : (y z : List ℕ) (xs : List (List ℕ)) → bytes_eq z y ≡ false → is_among xs z ≡ true → is_among (without_one y xs) z ≡ true
unfolding without_one
still_there y z [] apart e = e
still_there y z (x ∷ xs) apart e = by (bytes_eq y x) refl (bytes_eq z x) refl e (still_there y z xs apart)
  where
    by : (b : Bool) → bytes_eq y x ≡ b → (d : Bool) → bytes_eq z x ≡ d → (d || is_among xs z) ≡ true → (is_among xs z ≡ true → is_among (without_one y xs) z ≡ true)
        → is_among (cond b xs (x ∷ without_one y xs)) z ≡ true
    by true is true also e later =
        let one : y ≡ x = (bytes_eq-Decides y x).0 is in
        let two : z ≡ x = (bytes_eq-Decides z x).0 also in
        let wrong : true ≡ false = sym ((bytes_eq-Decides z y).1 (two ∙ sym one)) ∙ apart in
        absurd cc
    by true is false also e later = e
    by false is true also e later = ap (λ b. b || is_among (without_one y xs) z) also
    by false is false also e later = ap (λ b. b || is_among (without_one y xs) z) also ∙ later e

different : (x y : List ℕ) → x ≢ y → bytes_eq x y ≡ false
different x y apart = by (bytes_eq x y) refl
  where
    by : (b : Bool) → bytes_eq x y ≡ b → b ≡ false
    by true e = absurd (apart ((bytes_eq-Decides x y).0 e))
    by false e = refl

pub pigeons : (f : ℕ → List ℕ) → ((i j : ℕ) → f i ≡ f j → i ≡ j) → (n : ℕ) (xs : List (List ℕ)) → ((k : ℕ) → k < n → is_among xs (f k) ≡ true) → n ≤ length xs
pigeons f once zero xs all = omega arith
pigeons f once (suc n) xs all =
    let here = all n (omega arith) in
    let less = pigeons f once n (without_one (f n) xs) (λ k below.
    still_there (f n) (f k) xs (different (f k) (f n) (λ same. let one : k ≡ n = once k n same in omega arith)) (all k (omega arith))) in
    let one = shorter (f n) xs here in
    omega arith

pub length_exported : (n : ℕ) (own : List ℕ) → length (exported n own) ≡ 9 * n + length own
length_exported zero own = omega arith
length_exported (suc n) own = let more = length_exported n own in omega arith

pub exported_once : (own : List ℕ) (i j : ℕ) → exported i own ≡ exported j own → i ≡ j
exported_once own i j e =
    let one = length_exported i own in
    let two = length_exported j own in
    let same = ap length e in
    omega arith
