-- One more element of a list that is read in turn.
use Rattle.std.proofs.Common.{◌≡◌, ℕ, ◌+◌, ◌<◌, List, [], ◌∷◌, ◌++◌, length, map, drop, get_or, Result, Ok, sym, ap, subst, ◌∙◌}
use Rattle.std.proofs.lemmas.List.{at_drop_more, length_push}
use Rattle.metric_base.specs.Steps.{◌>>=◌, each}

-- the list is one longer
pub one_longer : {Y : Type 0} (done more : List Y) (y : Y) (n : ℕ) → more ≡ done ++ y ∷ [] → length done ≡ n → length more ≡ n + 1
one_longer {Y} done more y n put count = ap (λ (ys : List Y). length ys) put ∙ length_push done y ∙ ap (λ (m : ℕ). m + 1) count

-- with the element that the step gave, those that are left give what they gave before
pub each_more : {T X Y E : Type 0} (step : List Y → X → Result Y E) (seen_as : T → X) (done before more : List Y) (ts : List T) (i : ℕ) (t : T) (y : Y)
    → i < length ts → t ≡ get_or ts i t → before ≡ done → step before (seen_as t) ≡ Ok y → more ≡ done ++ y ∷ []
    → each step more (map seen_as (drop (i + 1) ts)) ≡ each step done (map seen_as (drop i ts))
each_more {T} {X} {Y} {E} step seen_as done before more ts i t y within is same made put =
    let first = subst (λ (ys : List Y). step ys (seen_as t) ≡ Ok y) same made in
    ap (λ (ys : List Y). each step ys (map seen_as (drop (i + 1) ts))) put
    ∙ sym (ap (λ (r : Result Y E). (r >>= λ next. Ok (done ++ next ∷ [])) >>= λ ys. each step ys (map seen_as (drop (i + 1) ts))) first)
    ∙ ap (λ (u : T). each step done (map seen_as (u ∷ drop (i + 1) ts))) is
    ∙ sym (at_drop_more (λ (rest : List T). each step done (map seen_as rest)) ts i t within)
