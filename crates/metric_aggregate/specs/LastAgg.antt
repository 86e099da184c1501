-- For which lists of values a `LastAgg` stands.
use Rattle.std.proofs.Common.{◌≡◌, ℤ, true, List, [], ◌∷◌, ◌++◌, length, Option, Some, None, refl}
use Rattle.std.proofs.Common.{ap, sym, ◌∙◌}
use Rattle.std.specs.Prelude.{◌==◌, is_none}
use Rattle.std.proofs.Common.{arith}
use Rattle.std.proofs.lemmas.Bool.{ne_eqb}
use Rattle.metric_aggregate.specs.declared.last.LastAgg.{LastAgg}
use Rattle.metric_aggregate.specs.Aggregation.{LastValueAggregation}
use Rattle.metric_aggregate.specs.Range.{in_range}
use Rattle.metric_aggregate.specs.Value.{last_of}

-- the last value of a list, where there is one
abbrev pub last_added : List ℤ → Option ℤ
last_added [] = None
last_added (x ∷ xs) = Some (last_of (x ∷ xs))

pub record StandsLast (a : LastAgg) (added : List ℤ) : Type 0 where
  pub last : a.last ≡ last_added added

pub last_fits_in_range : (a : LastAgg) (added : List ℤ) (value : ℤ) → StandsLast a added
    → true ≡ in_range LastValueAggregation (added ++ value ∷ [])
last_fits_in_range a added value s = refl

pub last_is_empty_of_none : (a : LastAgg) (added : List ℤ) → StandsLast a added
    → is_none a.last ≡ (length added == 0)
last_is_empty_of_none a [] s = ap is_none s.last
last_is_empty_of_none a (x ∷ xs) s =
    ap is_none s.last ∙ sym (ne_eqb (length (x ∷ xs)) 0 (λ e. omega (arith, e)))
