-- The tests by which an instrument is compared with what a program was made for.
use Rattle.std.specs.Prelude.{◌≡◌, ℕ, ◌/◌, ◌%◌, ◌==◌, Bool, true, false, not, ◌&&◌, List, [], ◌∷◌}
use Rattle.std.specs.Prelude.{map, Option, Some, None, if◌then◌else◌}
use Rattle.metric_contents.specs.Attributes.{given_by}
use Rattle.metric_contents.specs.Encoding.{Given, is_of}
use Rattle.metric_contents.specs.Places.{same_value}
use Rattle.metric_contents.specs.declared.contents.Instrument.{Instrument}
use Rattle.metric_contents.specs.declared.contents.Key.{Key}
use Rattle.metric_names.specs.declared.value.AttrValue.{AttrValue}
use Rattle.metric_meaning.specs.Meanings.{Shape, asked_keys}
use Rattle.metric_meaning.specs.declared.difference.Difference.{Difference}
use Rattle.metric_meaning.specs.declared.difference.Difference.TheVariants.{NoInstrument}
use Rattle.metric_meaning.specs.declared.expected.Expected.{Expected}

-- the instrument that a program was made for
abbrev pub shape_by : Expected → Shape
shape_by expected = record {
  meter = expected.meter.now;
  name = expected.name.now;
  kind = expected.kind;
  unit = expected.unit.now;
  keys = asked_keys (map given_by expected.keys.now);
  optional = expected.optional;
}

-- what differs is that there is no instrument
abbrev pub is_missing : Difference → Bool
is_missing NoInstrument = true
is_missing other = false

-- An instrument has this name, kind and unit.
pub record HasOwn (own : Instrument) (shape : Shape) : Type 0 where
  pub name : own.name ≡ shape.name
  pub kind : own.kind ≡ shape.kind
  pub unit : own.unit ≡ shape.unit

-- The same, and its meter has this name.
pub record HasHead (meter : Option (List ℕ)) (own : Instrument) (shape : Shape) : Type 0 where
  pub named : meter ≡ Some shape.meter
  pub has : HasOwn own shape

-- what is left after the values of a key; none where the key does not begin with them
abbrev pub after_values : List ℕ → List AttrValue → List Given → Option (List Given)
after_values name values [] = Some []
after_values name [] (given ∷ others) = if is_of name given then None else Some (given ∷ others)
after_values name (value ∷ values) (given ∷ others) =
    if is_of name given
    then (if same_value value given.1 then after_values name values others else None)
    else Some (given ∷ others)

-- two flags are the same
abbrev pub is_same : Bool → Bool → Bool
is_same a b = if a then b else not b

-- what is left after a key; none where it is another one
abbrev pub after_key : Bool → Key → List Given → Option (List Given)
after_key is_optional key [] = if key.optional then Some [] else None
after_key is_optional key (given ∷ others) =
    if is_of key.name given && is_same key.optional is_optional
    then after_values key.name key.values (given ∷ others) else None

-- whether a test passes of what is there
abbrev pub is_there_and : (List Given → Bool) → Option (List Given) → Bool
is_there_and test None = false
is_there_and test (Some given) = test given

-- whether each key is the one that is asked for, and nothing is left after all of them
abbrev pub keys_agree : ℕ → List Key → List Given → Bool
keys_agree optional [] [] = true
keys_agree optional [] (given ∷ others) = false
keys_agree optional (key ∷ keys) given =
    is_there_and (λ rest. keys_agree (optional / 2) keys rest)
    (after_key (optional % 2 == 1) key given)
