-- What a table of series keeps, and for which recordings it stands.
use Rattle.std.specs.Prelude.{◌≡◌, ◌≢◌, ℕ, Bool, List, [], Option, Some, None}
use Rattle.std.specs.Map.{keys_of, lookup}
use Rattle.std.specs.Str.{bytes_eq}
use Rattle.metric_aggregate.specs.declared.aggregate.Aggregate as aggregate
use Rattle.metric_history.specs.Aggregations.{stream_aggregation}
use Rattle.metric_history.specs.declared.entry.Entry.{Entry}
use Rattle.metric_history.specs.Points.{values}
use Rattle.metric_views.specs.declared.stream.Stream.{Stream}
use Rattle.metric_history.specs.Series.{held, rows}

-- a table whose values are aggregated by `A`, made of parameters `P`
pub record TableValue (A P : Type 0) : Type 0 where
  -- whether each declared key is kept
  pub kept : List Bool
  -- the cardinality limit
  pub limit : ℕ
  -- what its aggregates are made of
  pub parameters : P
  -- the aggregate of each held series, in the order in which the series came first
  pub series : List (List ℕ × A)
  -- the aggregate of all other recordings; none before the first
  pub overflow : Option A

-- it has a place for any set
abbrev pub TakesAny : {A P : Type 0} → TableValue A P → List ℕ → Type 0
TakesAny t set = Unit {0}

module _ {A P : Type 0} (by : aggregate.Ghosts A P) where
  -- an aggregate has the values of a series of the window, or of its overflow series
  pub record HasRows (a : A) (s : Stream) (window : List Entry) (place : Option (List ℕ))
      : Type 0 where
    pub aggregation : by.aggregation a ≡ stream_aggregation s
    pub stands : by.stands a (values (rows s window place))

  -- the overflow series has an aggregate exactly where some recording belongs to it
  abbrev pub HasRest : Option A → Stream → List Entry → Type 0
  HasRest (Some a) s window = HasRows a s window None × (rows s window None ≢ [])
  HasRest None s window = rows s window None ≡ []

  -- a table keeps the numbers of the recordings of the window in a stream
  pub record StandsTable (t : TableValue A P) (s : Stream) (window : List Entry) : Type 0 where
    pub kept : t.kept ≡ s.kept
    pub limit : t.limit ≡ s.limit
    pub aggregation : by.aggregation_of t.parameters ≡ stream_aggregation s
    pub held : keys_of t.series ≡ held s window
    pub each : (key : List ℕ) (a : A) → lookup (bytes_eq key) t.series ≡ Some a
        → HasRows a s window (Some key)
    pub rest : HasRest t.overflow s window
