-- What stands at two places, as far as there is something.
use Rattle.std.proofs.Common.{◌≡◌, ◌<◌, ◌≤◌, ℕ, List, [], ◌++◌, length, get_or, Option, Some, None, refl, sym, ap, ◌∙◌}
use Rattle.std.specs.Prelude.{slice_get}
use Rattle.std.proofs.lemmas.List.{append-nil}
use Rattle.std.proofs.lemmas.Option.{slice_get_past, slice_get_read}

pub got : {X : Type 0} (xs : List X) (n : ℕ) (x : X) → n < length xs → x ≡ get_or xs n x → slice_get xs n ≡ Some x
got xs n x within is = slice_get_read xs (length xs) n x refl within is

-- nothing at the first place, or at the second one, adds nothing
pub nothing_first : {X C : Type 0} (f : Option X → Option X → List C) (now : List C) (xs : List X) (n : ℕ) (other : Option X)
    → length xs ≤ n → f None other ≡ [] → now ≡ now ++ f (slice_get xs n) other
nothing_first f now xs n other past none =
    sym (ap (λ o. now ++ f o other) (slice_get_past xs n past) ∙ ap (λ cs. now ++ cs) none ∙ append-nil now)

pub nothing_second : {X C : Type 0} (f : Option X → Option X → List C) (now : List C) (xs : List X) (n : ℕ) (one : Option X)
    → length xs ≤ n → f one None ≡ [] → now ≡ now ++ f one (slice_get xs n)
nothing_second f now xs n one past none =
    sym (ap (λ o. now ++ f one o) (slice_get_past xs n past) ∙ ap (λ cs. now ++ cs) none ∙ append-nil now)
