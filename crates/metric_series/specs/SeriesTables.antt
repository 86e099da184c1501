-- For which recordings the table of a stream stands, by the stream's aggregation.
use Rattle.metric_aggregate.specs.BucketAgg.{Histogram as Buckets}
use Rattle.metric_aggregate.specs.contracts.buckets.BucketAggAggregate.TheImpl as of_buckets
use Rattle.metric_aggregate.specs.contracts.last.LastAggAggregate.TheImpl as of_last
use Rattle.metric_aggregate.specs.contracts.sum.SumAggAggregate.TheImpl as of_sum
use Rattle.metric_aggregate.specs.declared.aggregate.Aggregate as aggregate
use Rattle.metric_aggregate.specs.declared.buckets.HistogramParameters.{HistogramParameters}
use Rattle.metric_aggregate.specs.declared.last.LastAgg.{LastAgg}
use Rattle.metric_aggregate.specs.declared.sum.SumAgg.{SumAgg}
use Rattle.metric_series.specs.declared.either.Either.{Either}
use Rattle.metric_series.specs.declared.table.Table as table
use Rattle.metric_series.specs.Eithers.{either}
use Rattle.metric_series.specs.Ready.{IsReadyTable}
use Rattle.metric_series.specs.Tables.{StandsTable, TableValue, TakesAny}

-- the tables of the aggregations: of sums, else of last values, else of histograms
abbrev pub ByAggregation : Type 0 → Type 0 → Type 0 → Type 0
ByAggregation S L H = Either S (Either L H)

abbrev pub by_aggregation : {S L H : Type 0} → table.Ghosts S → table.Ghosts L → table.Ghosts H
    → table.Ghosts (ByAggregation S L H)
by_aggregation sums last_values histograms = either sums (either last_values histograms)

-- the tables whose series are found by hash. They have a place for any set, and
-- take memory for each new series.
abbrev pub hashed : {A P : Type 0} → aggregate.Ghosts A P → table.Ghosts (TableValue A P)
hashed by = record {
  stands = StandsTable by;
  takes = TakesAny;
  has_room = λ t. ⊥;
  is_ready = IsReadyTable by;
}

-- a `SeriesTable`, and what is known of it
abbrev pub SeriesValue : Type 0
SeriesValue =
    ByAggregation (TableValue SumAgg (Unit {0})) (TableValue LastAgg (Unit {0}))
    (TableValue Buckets HistogramParameters)

abbrev pub series_tables : table.Ghosts SeriesValue
series_tables =
    by_aggregation (hashed of_sum.ghosts) (hashed of_last.ghosts) (hashed of_buckets.ghosts)

-- # stands for recordings (SDK, cardinality limits) [StandsTable]
-- A table's series with their aggregates in first-seen order, and its overflow aggregate, are those
-- of these recordings.

-- # ready (SDK, cardinality limits) [IsPlace]
-- The value's place was found: a held series, the next one or the overflow series; the value fits
-- there, and an empty aggregate stands there where the place is new or the overflow series had
-- none.
