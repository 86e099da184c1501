-- What an instrument means to a program that was made for it.
use Rattle.std.specs.Prelude.{◌≡◌, ℕ, ◌/◌, ◌%◌, ◌==◌, Bool, true, All, List, [], ◌∷◌, length, take}
use Rattle.std.specs.Prelude.{Option, Some, option_and_then, option_map, slice_get, if◌then◌else◌}
use Rattle.std.specs.Str.{bytes_eq}
use Rattle.metric_contents.specs.Encoding.{Given}
use Rattle.metric_contents.specs.declared.contents.Contents.{Contents}
use Rattle.metric_contents.specs.declared.contents.Instrument.{Instrument}
use Rattle.metric_contents.specs.declared.contents.Key.{Key}
use Rattle.metric_contents.specs.declared.contents.Kind.{Kind}
use Rattle.metric_contents.specs.declared.contents.Meter.{Meter}
use Rattle.metric_names.specs.declared.value.AttrValue.{AttrValue}

-- A key that a program was made for: its name, and its values in order.
pub record AskedKey : Type 0 where
  pub name : List ℕ
  pub values : List AttrValue

-- An instrument that a program was made for: the names of its meter and its own, its kind, its
-- unit, its keys in order, and a number of which bit i says that key i may be left out.
pub record Shape : Type 0 where
  pub meter : List ℕ
  pub name : List ℕ
  pub kind : Kind
  pub unit : List ℕ
  pub keys : List AskedKey
  pub optional : ℕ

-- A declared key has this name, is optional exactly where that is said, and its values begin with
-- these.
pub record KeyMeans (is_optional : Bool) (asked : AskedKey) (key : Key) : Type 0 where
  pub name : key.name ≡ asked.name
  pub optional : key.optional ≡ is_optional
  pub values : take (length asked.values) key.values ≡ asked.values

-- the first keys mean these, and each further one may be left out
abbrev pub KeysMean : ℕ → List AskedKey → List Key → Type 0
KeysMean optional [] further = All (λ (key : Key). key.optional ≡ true) further
KeysMean optional (asked ∷ others) [] = ⊥
KeysMean optional (asked ∷ others) (key ∷ keys) =
    KeyMeans (optional % 2 == 1) asked key × KeysMean (optional / 2) others keys

-- the name of the meter of the instrument of a number
abbrev pub meter_name : Contents → ℕ → Option (List ℕ)
meter_name contents number =
    option_and_then
    (λ (i : Instrument). option_map (λ (m : Meter). m.name) (slice_get contents.meters i.meter))
    (slice_get contents.instruments number)

-- # meaning of an instrument (profile) [Means, KeysMean]
-- The instrument of a number has this meter, name, kind and unit; its first keys are these in
-- order, each optional exactly where that is said, with values that begin with these; and each
-- further key may be left out.
pub record Means (contents : Contents) (number : ℕ) (shape : Shape) : Type 0 where
  pub own : Instrument
  pub is : slice_get contents.instruments number ≡ Some own
  pub meter : meter_name contents number ≡ Some shape.meter
  pub name : own.name ≡ shape.name
  pub kind : own.kind ≡ shape.kind
  pub unit : own.unit ≡ shape.unit
  pub keys : KeysMean shape.optional shape.keys own.keys

-- a value before the keys that follow: one more of the first key, where it is of that name
abbrev pub with_value : Given → List AskedKey → List AskedKey
with_value given [] = record { name = given.0; values = given.1 ∷ [] } ∷ []
with_value given (key ∷ keys) =
    if bytes_eq key.name given.0
    then record { name = given.0; values = given.1 ∷ key.values } ∷ keys
    else record { name = given.0; values = given.1 ∷ [] } ∷ (key ∷ keys)

-- values of one name, one after the other, are those of one key
abbrev pub asked_keys : List Given → List AskedKey
asked_keys [] = []
asked_keys (given ∷ others) = with_value given (asked_keys others)
