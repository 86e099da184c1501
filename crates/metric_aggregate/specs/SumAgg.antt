-- For which lists of values a `SumAgg` stands.
use Rattle.std.proofs.Common.{◌≡◌, ℤ, pos, ◌+ℤ◌, List, [], ◌∷◌, ◌++◌, length, ap, sym, ◌∙◌}
use Rattle.std.specs.Prelude.{◌==◌}
use Rattle.std.proofs.lemmas.List.Sums.{fold_push}
use Rattle.metric_aggregate.specs.declared.sum.SumAgg.{SumAgg}
use Rattle.metric_aggregate.specs.Aggregation.{SumAggregation}
use Rattle.metric_aggregate.specs.Range.{fits_i64, in_range}
use Rattle.metric_aggregate.specs.Value.{sum_of}

pub record StandsSum (a : SumAgg) (added : List ℤ) : Type 0 where
  pub sum : a.sum ≡ sum_of added
  pub is_empty : a.is_empty ≡ (length added == 0)

pub sum_fits_in_range : (a : SumAgg) (added : List ℤ) (value : ℤ) → StandsSum a added
    → fits_i64 (a.sum +ℤ value) ≡ in_range SumAggregation (added ++ value ∷ [])
sum_fits_in_range a added value s =
    ap (λ (z : ℤ). fits_i64 (z +ℤ value)) s.sum
    ∙ ap fits_i64 (sym (fold_push ◌+ℤ◌ (pos 0) added value))

pub sum_is_empty_of_none : (a : SumAgg) (added : List ℤ) → StandsSum a added
    → a.is_empty ≡ (length added == 0)
sum_is_empty_of_none a added s = s.is_empty

-- # stands for a list (profile)
-- The running numbers of an aggregator are those of these values, added in this order.
