-- When a table is ready for a value: the value's place was found, and an empty
-- aggregate stands there where it is new.
use Rattle.std.specs.Prelude.{◌≡◌, ◌≤◌, ◌<◌, ℕ, ℤ, true, List, [], ◌∷◌, ◌++◌, Option, Some, None}
use Rattle.std.specs.Prelude.{length, position, slice_get}
use Rattle.indexmap.specs.IndexMap.{set_value_at}
use Rattle.std.specs.Map.{keys_of, values_of, lookup}
use Rattle.std.specs.Str.{bytes_eq}
use Rattle.metric_aggregate.specs.declared.aggregate.Aggregate as aggregate
use Rattle.metric_combinations.specs.Restrictions.{restricted}
use Rattle.metric_series.specs.Tables.{TableValue}
use Rattle.metric_series.specs.declared.place.Place.{Place}
use Rattle.metric_series.specs.declared.place.Place.TheVariants.{Held, New, Overflow, NewOverflow}

module _ {A P : Type 0} (by : aggregate.Ghosts A P) where
  -- the series of a key is held at an index, and a value fits there
  pub record IsHeld (t : TableValue A P) (key : List ℕ) (value : ℤ) (index : ℕ) : Type 0 where
    pub aggregate : A
    pub found : lookup (bytes_eq key) t.series ≡ Some aggregate
    pub place : position (bytes_eq key) (keys_of t.series) ≡ Some index
    pub fits : by.fits aggregate value ≡ true

  -- it is not held, and will be the next
  pub record IsNext (t : TableValue A P) (key : List ℕ) (index : ℕ) : Type 0 where
    pub absent : lookup (bytes_eq key) t.series ≡ None
    pub room : length t.series < t.limit
    pub place : index ≡ length t.series

  -- it is not held, and no place is left; the value fits in the overflow series
  pub record IsRest (t : TableValue A P) (key : List ℕ) (value : ℤ) : Type 0 where
    pub absent : lookup (bytes_eq key) t.series ≡ None
    pub full : t.limit ≤ length t.series
    pub aggregate : A
    pub found : t.overflow ≡ Some aggregate
    pub fits : by.fits aggregate value ≡ true

  -- the same, where the value is the first of the overflow series
  pub record IsNewRest (t : TableValue A P) (key : List ℕ) : Type 0 where
    pub absent : lookup (bytes_eq key) t.series ≡ None
    pub full : t.limit ≤ length t.series
    pub none : t.overflow ≡ None

  -- where a value of the series of a key falls
  abbrev pub IsPlace : TableValue A P → List ℕ → ℤ → Place → Type 0
  IsPlace t key value (Held index) = IsHeld t key value index
  IsPlace t key value (New index) = IsNext t key index
  IsPlace t key value Overflow = IsRest t key value
  IsPlace t key value NewOverflow = IsNewRest t key

  -- an empty aggregate, made of parameters
  pub record IsEmpty (empty : A) (parameters : P) : Type 0 where
    pub aggregation : by.aggregation empty ≡ by.aggregation_of parameters
    pub stands : by.stands empty []

  -- one was put last
  pub record PutsEmpty (old new : List (List ℕ × A)) (key : List ℕ) (parameters : P) : Type 0 where
    pub empty : A
    pub made : IsEmpty empty parameters
    pub last : new ≡ old ++ (key, empty) ∷ []

  -- what was put in for a value at a place
  abbrev pub Prepares : TableValue A P → TableValue A P → List ℕ → Place → Type 0
  Prepares old new key (Held index) = new ≡ old
  Prepares old new key (New index) =
      PutsEmpty old.series new.series key old.parameters
      × (new ≡ record old { series = new.series })
  Prepares old new key Overflow = new ≡ old
  Prepares old new key NewOverflow =
      (empty : A) × IsEmpty empty old.parameters × (new ≡ record old { overflow = Some empty })

  -- the new table is the old one, made ready for a value of a set
  pub record IsReadyTable (old new : TableValue A P) (set : List ℕ) (value : ℤ) (place : Place)
      : Type 0 where
    pub falls : IsPlace old (restricted old.kept set) value place
    pub prepared : Prepares old new (restricted old.kept set) place

  -- an aggregate takes a value
  pub record Adds (old new : A) (value : ℤ) : Type 0 where
    pub aggregation : by.aggregation new ≡ by.aggregation old
    pub stands : (added : List ℤ) → by.stands old added → by.stands new (added ++ value ∷ [])

  -- a value fits in the series at an index
  abbrev pub FitsAt : List (List ℕ × A) → ℕ → ℤ → Type 0
  FitsAt series index value =
      (a : A) × (slice_get (values_of series) index ≡ Some a) × (by.fits a value ≡ true)

  -- a value fits in the overflow series
  abbrev pub FitsRest : Option A → ℤ → Type 0
  FitsRest overflow value = (a : A) × (overflow ≡ Some a) × (by.fits a value ≡ true)

  -- the overflow series takes a value
  pub record AddsRest (old new : Option A) (value : ℤ) : Type 0 where
    pub before : A
    pub after : A
    pub found : old ≡ Some before
    pub adds : Adds before after value
    pub written : new ≡ Some after

  -- the series at an index takes a value
  pub record AddsAt (old new : List (List ℕ × A)) (index : ℕ) (value : ℤ) : Type 0 where
    pub before : A
    pub after : A
    pub found : slice_get (values_of old) index ≡ Some before
    pub adds : Adds before after value
    pub written : new ≡ set_value_at old index after
