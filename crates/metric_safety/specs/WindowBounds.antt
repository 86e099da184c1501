-- Between which numbers the points of a window stay, by how many recordings it has.
use Rattle.std.specs.Prelude.{◌≡◌, ℕ, ℤ, pos, ◌-◌, ◌≤◌, ◌<◌, ◌^◌, ◌≤ℤ◌, min, Bool, true, false, All}
use Rattle.std.specs.Prelude.{IfSome, IsSome, IsTrue, List, [], ◌∷◌, ◌++◌, Option, None}
use Rattle.std.specs.Prelude.{if◌then◌else◌, length, map, sum, sum_by, FitsSigned}
use Rattle.std.specs.Int.{w64}
use Rattle.std.specs.Option.{unwrap_or}
use Rattle.metric_aggregate.specs.Bounds.{IsBetween}
use Rattle.metric_aggregate.specs.Value.{sum_of}
use Rattle.metric_aggregate.specs.declared.point_value.PointValue.{PointValue}
use Rattle.metric_aggregate.specs.declared.point_value.PointValue.TheVariants.{Sum, Last, Buckets}
use Rattle.metric_bounds.specs.Amounts.{low_with, high_with}
use Rattle.metric_bounds.specs.Sums.{keeps_sum}
use Rattle.metric_views.specs.declared.stream.Stream.{Stream}
use Rattle.metric_views.specs.declared.stream.StreamAggregation.{StreamAggregation}
use Rattle.metric_views.specs.declared.stream.StreamAggregation.TheVariants as aggregations
use Rattle.metric_history.specs.declared.batch.Point.{Point}
use Rattle.metric_history.specs.declared.batch.StreamPoints.{StreamPoints}
use Rattle.metric_history.specs.declared.entry.Entry.{Entry}
use Rattle.metric_facts.specs.declared.facts.Facts.{Facts}
use Rattle.metric_facts.specs.declared.facts.NumberedStream.{NumberedStream}
use Rattle.metric_facts.specs.Facts.{is_delta}
use Rattle.metric_history.specs.Points.{points, reported, values}
use Rattle.metric_history.specs.Series.{all_series, distinct, rows}
use Rattle.metric_history.specs.Windows.{fits_all, window}
use Rattle.metric_safety.specs.SafeFacts.{series_of, total, IsJournal, IsSafeFacts}

-- a sum of at most so many values of the instrument's range
pub record IsSumWithin (facts : Facts) (count : ℕ) (sum : ℤ) : Type 0 where
  pub at_least : low_with count facts.lo ≤ℤ sum
  pub at_most : sum ≤ℤ high_with count facts.hi

-- a histogram of at most so many values of the instrument's range
pub record IsHistogramWithin (facts : Facts) (most count : ℕ) (counts : List ℕ) (kept : Option ℤ)
    (least greatest : ℤ) : Type 0 where
  pub within : count ≤ most
  pub buckets : sum counts ≡ count
  pub kept_within : IfSome kept (IsSumWithin facts most)
  pub least_between : IsBetween facts.lo facts.hi least
  pub greatest_between : IsBetween facts.lo facts.hi greatest

-- what may be reported of at most so many values of the instrument's range
abbrev pub IsValueWithin : Facts → ℕ → PointValue → Type 0
IsValueWithin facts most (Sum sum) = IsSumWithin facts most sum
IsValueWithin facts most (Last value) = IsBetween facts.lo facts.hi value
IsValueWithin facts most (Buckets count counts kept least greatest) =
    IsHistogramWithin facts most count counts kept least greatest

-- whether a stream counts its values
abbrev pub is_histogram : StreamAggregation → Bool
is_histogram (aggregations.Histogram boundaries) = true
is_histogram _ = false

-- how many values a histogram has
abbrev pub count_in : PointValue → ℕ
count_in (Buckets count counts kept least greatest) = count
count_in _ = 0

-- the sum that is reported, where there is one
abbrev pub sum_in : PointValue → ℤ
sum_in (Sum sum) = sum
sum_in (Last value) = pos 0
sum_in (Buckets count counts kept least greatest) = unwrap_or kept (pos 0)

-- # bounded window (SDK, cardinality limits) [IsBounded, IsValueWithin]
-- At most as many series as the stream can have and as there are recordings, none the overflow
-- series; numbers by range and number of recordings; each recording once.
pub record IsBounded (facts : Facts) (s : Stream) (window : List Entry) : Type 0 where
  pub series : length (distinct (all_series s.kept window)) ≤ min (series_of facts s)
      (length window)
  pub one_point_each : length (points s window) ≡ length (distinct (all_series s.kept window))
  pub no_rest : rows s window None ≡ []
  pub no_overflow : All (λ (p : Point). IsSome p.set) (points s window)
  pub numbers : All (λ (p : Point). IsValueWithin facts (length window) p.value) (points s window)
  pub counted : IsTrue (is_histogram s.aggregation)
      → sum_by (λ (p : Point). count_in p.value) (points s window) ≡ length window
  pub summed : IsTrue (keeps_sum s)
      → sum_of (map (λ (p : Point). sum_in p.value) (points s window)) ≡ sum_of (values window)

-- # report within bounds (SDK, collect)
-- No overflow point, and each number within the bounds for the recordings from one mark to another.
pub record IsReportWithin (facts : Facts) (from mark : ℕ) (all : List StreamPoints) : Type 0 where
  pub budgeted : mark ≤ total facts
  pub no_overflow : All (λ (s : StreamPoints). All (λ (p : Point). IsSome p.set) s.points) all
  pub few : All (λ (s : StreamPoints). length s.points ≤ mark - from) all
  pub numbers : All (λ (s : StreamPoints).
      All (λ (p : Point). IsValueWithin facts (mark - from) p.value) s.points) all

-- every number of a value is a 64-bit number
pub record IsHistogramInRange (count : ℕ) (counts : List ℕ) (kept : Option ℤ) (least greatest : ℤ)
    : Type 0 where
  pub count_fits : count < 2 ^ 64
  pub buckets_fit : All (λ (n : ℕ). n < 2 ^ 64) counts
  pub sum_fits : IfSome kept (FitsSigned w64)
  pub least_fits : FitsSigned w64 least
  pub greatest_fits : FitsSigned w64 greatest

abbrev pub IsValueInRange : PointValue → Type 0
IsValueInRange (Sum sum) = FitsSigned w64 sum
IsValueInRange (Last value) = FitsSigned w64 value
IsValueInRange (Buckets count counts kept least greatest) =
    IsHistogramInRange count counts kept least greatest

-- every window of the recordings that an instrument of safe facts may have accepted is bounded
abbrev pub BoundsJournals : Type 0
BoundsJournals =
    (facts : Facts) (journal : List Entry) (delta : Bool) (mark : ℕ) → IsSafeFacts facts
    → IsJournal facts journal
    → All
    (λ (s : NumberedStream). IsBounded facts s.stream (window delta mark journal)) facts.streams

-- whatever the marks, the next of them fits each stream
abbrev pub FitsJournals : Type 0
FitsJournals =
    (facts : Facts) (journal : List Entry) (entry : Entry) (mark : ℕ → ℕ) → IsSafeFacts facts
    → IsJournal facts (journal ++ entry ∷ [])
    → fits_all facts mark journal entry ≡ true

-- what a reader is told of them, from its mark (delta) or from the start
-- (cumulative), is within the bounds
abbrev pub BoundsReports : Type 0
BoundsReports =
    (facts : Facts) (journal : List Entry) (reader mark : ℕ) → IsSafeFacts facts
    → IsJournal facts journal
    → IsReportWithin facts (if is_delta facts reader then mark else 0) (length journal)
    (reported facts reader (window (is_delta facts reader) mark journal))
