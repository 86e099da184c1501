-- What a dense table keeps, and for which recordings it stands.
use Rattle.std.specs.Prelude.{◌≡◌, ◌≤◌, ◌<◌, ℕ, ℤ, Bool, true, All, List, [], Some, length, get_or}
use Rattle.std.specs.Prelude.{slice_get, slice_set}
use Rattle.metric_aggregate.specs.BucketAgg.{Histogram as Buckets}
use Rattle.metric_aggregate.specs.contracts.buckets.BucketAggAggregate.TheImpl as of_buckets
use Rattle.metric_aggregate.specs.contracts.last.LastAggAggregate.TheImpl as of_last
use Rattle.metric_aggregate.specs.contracts.sum.SumAggAggregate.TheImpl as of_sum
use Rattle.metric_aggregate.specs.declared.aggregate.Aggregate as aggregate
use Rattle.metric_aggregate.specs.declared.last.LastAgg.{LastAgg}
use Rattle.metric_aggregate.specs.declared.sum.SumAgg.{SumAgg}
use Rattle.metric_facts.specs.declared.facts.KeyFacts.{KeyFacts}
use Rattle.metric_facts.specs.Facts.{is_full_set}
use Rattle.metric_history.specs.declared.entry.Entry.{Entry}
use Rattle.metric_series.specs.declared.place.Place.{Place}
use Rattle.metric_series.specs.declared.place.Place.TheVariants.{Held}
use Rattle.metric_series.specs.Ready.{Adds}
use Rattle.metric_series.specs.SeriesTables.{ByAggregation, by_aggregation}
use Rattle.metric_series.specs.Tables.{HasRows}
use Rattle.metric_series.specs.declared.table.Table as table
use Rattle.metric_views.specs.declared.stream.Stream.{Stream}
use Rattle.metric_facts.specs.Products.{product_of}
use Rattle.metric_facts.specs.Ranks.{rank}
use Rattle.metric_dense.specs.Ranks.{series_of, IsRanked, IsTaken}

-- a table whose values are aggregated by `A`
pub record DenseValue (A : Type 0) : Type 0 where
  -- whether each declared key is kept
  pub kept : List Bool
  -- the declared keys
  pub keys : List KeyFacts
  -- the aggregate of each series that there can be, in the order of their ranks
  pub aggregates : List A

-- it has a place for each full set
abbrev pub TakesFull : {A : Type 0} → DenseValue A → List ℕ → Type 0
TakesFull t set = is_full_set t.keys set ≡ true

-- all memory that values need was taken when it was made
abbrev pub HasAllRoom : {A : Type 0} → DenseValue A → Type 0
HasAllRoom t = Unit {0}

module _ {A P : Type 0} (by : aggregate.Ghosts A P) where
  -- The table keeps the numbers of the recordings of the window in a stream: they are of full
  -- sets, the stream holds each series that there can be, and the aggregate of each rank has
  -- the recordings of its series.
  pub record StandsDense (t : DenseValue A) (s : Stream) (window : List Entry) : Type 0 where
    pub kept : t.kept ≡ s.kept
    pub ranked : IsRanked s.kept t.keys
    pub room : product_of s.kept t.keys ≤ s.limit
    pub places : length t.aggregates ≡ product_of s.kept t.keys
    pub taken : All (λ (e : Entry). IsTaken t.keys e.set) window
    pub each : (r : ℕ) (d : A) → r < length t.aggregates
        → HasRows by (get_or t.aggregates r d) s window (Some (series_of s.kept t.keys r))

  -- whether a value fits the aggregate of a rank
  pub record JudgesAt (aggregates : List A) (r : ℕ) (value : ℤ) (verdict : Bool) : Type 0 where
    pub within : r < length aggregates
    pub aggregate : A
    pub found : slice_get aggregates r ≡ Some aggregate
    pub fits : by.fits aggregate value ≡ verdict

  -- the aggregate of a rank takes a value, and the others are as they were
  pub record AddsAt (old new : List A) (r : ℕ) (value : ℤ) : Type 0 where
    pub before : A
    pub after : A
    pub found : slice_get old r ≡ Some before
    pub adds : Adds by before after value
    pub written : new ≡ slice_set old r after

  -- the value of a set falls to its rank, and fits there
  pub record FallsTo (t : DenseValue A) (set : List ℕ) (value : ℤ) (place : Place) : Type 0 where
    pub taken : IsTaken t.keys set
    pub at : place ≡ Held (rank t.kept t.keys set)
    pub fits : JudgesAt t.aggregates (rank t.kept t.keys set) value true

  -- the table was made ready for the value of a set, for which nothing has to be put in
  pub record IsReadyDense (old new : DenseValue A) (set : List ℕ) (value : ℤ) (place : Place)
      : Type 0 where
    pub same : new ≡ old
    pub falls : FallsTo old set value place

  -- an aggregate without values, made of parameters
  pub record IsMadeOf (parameters : P) (a : A) : Type 0 where
    pub aggregation : by.aggregation a ≡ by.aggregation_of parameters
    pub none : by.stands a []

  -- an aggregate has forgotten its values
  pub record IsEmptied (old new : A) : Type 0 where
    pub aggregation : by.aggregation new ≡ by.aggregation old
    pub none : (added : List ℤ) → by.stands old added → by.stands new []

-- the tables whose series are found by their ranks
abbrev pub ranked : {A P : Type 0} → aggregate.Ghosts A P → table.Ghosts (DenseValue A)
ranked by = record {
  stands = StandsDense by;
  takes = TakesFull;
  has_room = HasAllRoom;
  is_ready = IsReadyDense by;
}

-- a `DenseTable`, and what is known of it
abbrev pub DenseTableValue : Type 0
DenseTableValue = ByAggregation (DenseValue SumAgg) (DenseValue LastAgg) (DenseValue Buckets)

abbrev pub dense_tables : table.Ghosts DenseTableValue
dense_tables =
    by_aggregation (ranked of_sum.ghosts) (ranked of_last.ghosts) (ranked of_buckets.ghosts)

-- # stands, densely (SDK, cardinality limits) [StandsDense, dense_table]
-- The recordings are of full sets, the stream has room for each series that there can be, and the
-- aggregate of each rank is that of its series.

-- # ready, densely (SDK, cardinality limits) [IsReadyDense]
-- The value's place is the rank of its set, and it fits there; nothing is put in.
