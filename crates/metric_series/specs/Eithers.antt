-- For which recordings a table stands that is of one of two kinds,
-- and when it is ready for a value.
use Rattle.std.specs.Prelude.{ℕ, ℤ, List}
use Rattle.metric_series.specs.Calls.{Standing}
use Rattle.metric_series.specs.declared.either.Either.{Either}
use Rattle.metric_series.specs.declared.either.Either.TheVariants.{Left, Right}
use Rattle.metric_series.specs.declared.place.Place.{Place}
use Rattle.metric_series.specs.declared.table.Table as table

module _ {A B : Type 0} (left : table.Ghosts A) (right : table.Ghosts B) where
  -- the table keeps the numbers of the recordings of the window in a stream
  abbrev pub Stands : Either A B → Standing
  Stands (Left t) = left.stands t
  Stands (Right t) = right.stands t

  -- it has a place for values of a set
  abbrev pub Takes : Either A B → List ℕ → Type 0
  Takes (Left t) set = left.takes t set
  Takes (Right t) set = right.takes t set

  -- it has room for all values
  abbrev pub HasRoom : Either A B → Type 0
  HasRoom (Left t) = left.has_room t
  HasRoom (Right t) = right.has_room t

  -- the new table is the old one, made ready for a value of a set; so it is of the kind that it was
  abbrev pub IsReady : Either A B → Either A B → List ℕ → ℤ → Place → Type 0
  IsReady (Left old) (Left new) set value place = left.is_ready old new set value place
  IsReady (Right old) (Right new) set value place = right.is_ready old new set value place
  IsReady old new set value place = ⊥

  abbrev pub either : table.Ghosts (Either A B)
  either = record { stands = Stands; takes = Takes; has_room = HasRoom; is_ready = IsReady }
