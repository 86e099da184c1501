-- The set key that attributes name, or the first refusal.
use Rattle.std.specs.Prelude.{◌≡◌, ℕ, ◌+◌, ◌-◌, Bool, false, not, ◌||◌, List, [], ◌∷◌, ◌++◌, length}
use Rattle.std.specs.Prelude.{map, replicate, Option, Some, None, is_some, unwrap_or, Result, Ok}
use Rattle.std.specs.Prelude.{slice_get, find}
use Rattle.std.specs.List.{list_any, list_all}
use Rattle.std.specs.Option.{option_map}
use Rattle.std.specs.List.Sorted.{IsPermutation}
use Rattle.std.specs.Str.{bytes_eq}
use Rattle.metric_base.specs.Steps.{◌>>=◌, require, require_some}
use Rattle.metric_combinations.specs.Combinations.{permits}
use Rattle.metric_names.specs.declared.value.AttrValue.{AttrValue}
use Rattle.metric_contents.specs.declared.contents.Instrument.{Instrument}
use Rattle.metric_contents.specs.declared.contents.Key.{Key}
use Rattle.metric_contents.specs.declared.refusal.Refusal.{Refusal}
use Rattle.metric_contents.specs.declared.refusal.Refusal.TheVariants.{
  UnknownInstrument,
  DuplicateKey,
  UnknownKey,
  UnknownValue,
  MissingKey,
  Combination,
}
use Rattle.metric_contents.specs.KeyNames.{is_key}
use Rattle.metric_contents.specs.Places.{place}

-- an attribute: the name of its key, and its value
abbrev pub Given : Type 0
Given = List ℕ × AttrValue

-- the attribute is of the key of this name
abbrev pub is_of : List ℕ → Given → Bool
is_of name given = bytes_eq given.0 name

-- some key stands again later
abbrev pub has_repeated_key : List Given → Bool
has_repeated_key [] = false
has_repeated_key (given ∷ attrs) = list_any (is_of given.0) attrs || has_repeated_key attrs

-- the key is declared
abbrev pub is_declared : List Key → Given → Bool
is_declared keys given = list_any (is_key given.0) keys

-- where the attribute is of the key, the key declares its value
abbrev pub declares : Given → Key → Bool
declares given key = not (is_of key.name given) || is_some (place key.values given.1)

-- the attribute's value is declared for its key
abbrev pub has_declared_value : List Key → Given → Bool
has_declared_value keys given = list_all (declares given) keys

-- the key is given, or may be left out
abbrev pub is_complete : List Given → Key → Bool
is_complete attrs key = key.optional || list_any (is_of key.name) attrs

-- one plus the number of a value, where the key declares it
abbrev pub entry_with : Key → AttrValue → Option ℕ
entry_with key value = option_map (λ number. number + 1) (place key.values value)

-- the same of the value that a key is given, and 0 where it is given none
abbrev pub entry_of : Key → Option Given → Option ℕ
entry_of key None = Some 0
entry_of key (Some given) = entry_with key given.1

-- the entry of a key in a set key
abbrev pub entry_at : List Given → Key → Option ℕ
entry_at attrs key = entry_of key (find (is_of key.name) attrs)

-- an entry for each declared key, and 0 in the places that are left
abbrev pub set_key : List Key → List Given → List ℕ
set_key keys attrs =
    map (λ key. unwrap_or (entry_at attrs key) 0) keys ++ replicate (8 - length keys) 0

-- the set key that the attributes name, each refusal tried over all of them before the next
unfoldable pub set_of : List Key → List Given → Result (List ℕ) Refusal
set_of keys attrs = do
  _ ← require (not (has_repeated_key attrs)) DuplicateKey
  _ ← require (list_all (is_declared keys) attrs) UnknownKey
  _ ← require (list_all (has_declared_value keys) attrs) UnknownValue
  _ ← require (list_all (is_complete attrs) keys) MissingKey
  Ok (set_key keys attrs)

-- a set key, where it is one of the combinations
abbrev pub permitted : Option (List (List ℕ)) → List ℕ → Result (List ℕ) Refusal
permitted allowed set = do
  _ ← require (permits allowed set) Combination
  Ok set

-- the set key that the attributes name, where the instrument allows the combination of their values
unfoldable pub allowed_set : Instrument → List Given → Result (List ℕ) Refusal
allowed_set instrument attrs = do
  set ← set_of instrument.keys attrs
  permitted instrument.allowed set

-- # set key of attributes (Common, attribute; profile) [encode_of, allowed_set, set_key,
-- has_declared_value]
-- For each declared key one plus the place of its value, 0 where it is absent, where the instrument
-- allows the combination; or the first refusal.
unfoldable pub encode_of : List Instrument → ℕ → List Given → Result (List ℕ) Refusal
encode_of instruments number attrs = do
  instrument ← require_some (slice_get instruments number) UnknownInstrument
  allowed_set instrument attrs

-- Attributes in another order name the same set key, or get the same refusal.
abbrev pub IgnoresOrder : Type 0
IgnoresOrder =
    (instruments : List Instrument) (number : ℕ) (attrs others : List Given)
    → IsPermutation attrs others
    → encode_of instruments number attrs ≡ encode_of instruments number others
