-- What a program is made for that is made of a catalogue.
use Rattle.std.specs.Prelude.{◌≡◌, ℕ, ◌+◌, ◌*◌, List, [], ◌∷◌, map, Some, slice_get}
use Rattle.std.specs.Prelude.{if◌then◌else◌}
use Rattle.std.specs.List.{flat_map}
use Rattle.metric_catalogue.specs.Sound.{IsSoundInstrument}
use Rattle.metric_contents.specs.Encoding.{Given}
use Rattle.metric_contents.specs.declared.contents.Contents.{Contents}
use Rattle.metric_contents.specs.declared.contents.Instrument.{Instrument}
use Rattle.metric_contents.specs.declared.contents.Key.{Key}
use Rattle.metric_names.specs.declared.value.AttrValue.{AttrValue}
use Rattle.metric_meaning.specs.Meanings.{AskedKey, Means, Shape, asked_keys, meter_name}

-- the values of a key, each under its name
abbrev pub values_of : Key → List Given
values_of key = map (λ (value : AttrValue). (key.name, value)) key.values

-- the same of all keys
abbrev pub attributes_of : List Key → List Given
attributes_of keys = flat_map values_of keys

-- a number of which bit i says that key i may be left out
abbrev pub optional_of : List Key → ℕ
optional_of [] = 0
optional_of (key ∷ keys) = optional_of keys * 2 + (if key.optional then 1 else 0)

-- an instrument of a meter of this name, with these keys
abbrev pub shape_with : List ℕ → Instrument → List AskedKey → Shape
shape_with meter own keys = record {
  meter = meter;
  name = own.name;
  kind = own.kind;
  unit = own.unit;
  keys = keys;
  optional = optional_of own.keys;
}

-- a key with all its values
abbrev pub key_of : Key → AskedKey
key_of key = record { name = key.name; values = key.values }

-- the instrument with all its keys
abbrev pub shape_of : List ℕ → Instrument → Shape
shape_of meter own = shape_with meter own (map key_of own.keys)

-- # what a program is made for (profile) [AttributesAreKeys, AnInstrumentMeansItself]
-- The values of the keys of an instrument, each under the name of its key, are its keys.
abbrev pub AttributesAreKeys : Type 0
AttributesAreKeys =
    (meters : ℕ) (own : Instrument) → IsSoundInstrument meters own
    → asked_keys (attributes_of own.keys) ≡ map key_of own.keys

-- An instrument of a catalogue means what a program is made for that is made of it.
abbrev pub AnInstrumentMeansItself : Type 0
AnInstrumentMeansItself =
    (contents : Contents) (number : ℕ) (own : Instrument) (meter : List ℕ)
    → slice_get contents.instruments number ≡ Some own → meter_name contents number ≡ Some meter
    → Means contents number (shape_of meter own)
