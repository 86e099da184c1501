-- What two lanes report of one series, joined.
use Rattle.std.specs.Prelude.{◌≡◌, ℕ, ℤ, ◌+◌, ◌+ℤ◌, ◌<◌, Bool, true, false, IsTrue, List, [], ◌∷◌}
use Rattle.std.specs.Prelude.{Option, Some, None, length}
use Rattle.std.specs.Int.{int_min, int_max}
use Rattle.std.specs.List.{list_all}
use Rattle.metric_aggregate.specs.Aggregation.{Aggregation, SumAggregation, LastValueAggregation}
use Rattle.metric_aggregate.specs.Aggregation.{HistogramAggregation}
use Rattle.metric_aggregate.specs.Value.{value_of}
use Rattle.metric_aggregate.specs.declared.point_value.PointValue.{PointValue}
use Rattle.metric_aggregate.specs.declared.point_value.PointValue.TheVariants.{Sum, Buckets}
use Rattle.metric_facts.specs.declared.facts.FactsFields.{FactsFields as Facts}
use Rattle.metric_facts.specs.declared.facts.NumberedStream.{NumberedStream}
use Rattle.metric_history.specs.Aggregations.{stream_aggregation}

-- # interleaved lists (profile)
-- The third list has both others: the second's elements stand between the first's, each list in its
-- order.
pub data Interleaves {X : Type 0} : List X → List X → List X → Type 0 where
  none : Interleaves [] [] []
  left : {x : X} {xs ys zs : List X} → Interleaves xs ys zs → Interleaves (x ∷ xs) ys (x ∷ zs)
  right : {y : X} {xs ys zs : List X} → Interleaves xs ys zs → Interleaves xs (y ∷ ys) (y ∷ zs)

-- bucket by bucket
abbrev pub added : List ℕ → List ℕ → List ℕ
added [] ns = ns
added (m ∷ ms) [] = m ∷ ms
added (m ∷ ms) (n ∷ ns) = (m + n) ∷ added ms ns

-- the sums that are kept
abbrev pub sums : Option ℤ → Option ℤ → Option ℤ
sums (Some a) (Some b) = Some (a +ℤ b)
sums (Some a) None = Some a
sums None b = b

-- # joined values (SDK, aggregation)
-- Sums added; of histograms counts, buckets and kept sums added, the lesser least and the greater
-- greatest value. A last value is of one lane alone.
abbrev pub joined : PointValue → PointValue → PointValue
joined (Sum a) (Sum b) = Sum (a +ℤ b)
joined (Buckets m ms r k f) (Buckets n ns s l g) =
    Buckets (m + n) (added ms ns) (sums r s) (int_min k l) (int_max f g)
joined a b = a

-- whether the values of lanes can be joined: of two last values none says which is the later one
abbrev pub joins : Aggregation → Bool
joins SumAggregation = true
joins LastValueAggregation = false
joins (HistogramAggregation boundaries keeps_sum) = true

-- those of each stream
abbrev pub all_join : Facts → Bool
all_join own = list_all (λ (s : NumberedStream). joins (stream_aggregation s.stream)) own.streams

-- What two lanes report of a series, joined, is what is reported of their values in every order.
abbrev pub JoinsValues : Type 0
JoinsValues =
    (a : Aggregation) (xs ys zs : List ℤ) → IsTrue (joins a) → Interleaves xs ys zs
    → 0 < length xs → 0 < length ys
    → value_of a zs ≡ joined (value_of a xs) (value_of a ys)
