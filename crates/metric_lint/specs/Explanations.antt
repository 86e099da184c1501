-- What the first refusal of a recording is about, of those that rest on what the recording says
-- alone.
use Rattle.std.specs.Prelude.{ℕ, ℤ, Bool, true, false, not, ◌&&◌, int_le, if◌then◌else◌, List, []}
use Rattle.std.specs.Prelude.{◌∷◌, Option, Some, None, Result, Ok, Err, slice_get, find}
use Rattle.std.specs.List.{list_any}
use Rattle.std.specs.Option.{option_map, option_or}
use Rattle.metric_base.specs.Steps.{◌>>=◌, require, require_some}
use Rattle.metric_names.specs.declared.value.AttrValue.{AttrValue}
use Rattle.metric_names.specs.Values.{value_of}
use Rattle.metric_contents.specs.declared.contents.Instrument.{Instrument}
use Rattle.metric_contents.specs.declared.refusal.Refusal.{Refusal}
use Rattle.metric_contents.specs.declared.refusal.Refusal.TheVariants as refusals
use Rattle.metric_contents.specs.Encoding.{Given, encode_of, has_declared_value, is_complete}
use Rattle.metric_contents.specs.Encoding.{is_declared, is_of}
use Rattle.metric_lint.specs.declared.explanation.Explanation.{Explanation}
use Rattle.metric_lint.specs.declared.explanation.Explanation.TheVariants as explanations
use Rattle.metric_lint.specs.declared.explanation.Mistake.{Mistake}
use Rattle.metric_lint.specs.declared.explanation.Mistake.TheVariants as mistakes

-- a mistake with what it is about: a key, a key with a value, or a value with a range; a
-- combination alone is about all values
pub data Fault : Type 0 where
  DuplicateKey : List ℕ → Fault
  UnknownKey : List ℕ → Fault
  UnknownValue : List ℕ → AttrValue → Fault
  MissingKey : List ℕ → Fault
  Combination : Fault
  ValueRange : ℤ → ℤ → ℤ → Fault

-- an instrument that is not there, or an instrument's name and a mistake
pub data Told : Type 0 where
  UnknownInstrument : ℕ → Told
  On : List ℕ → Fault → Told

-- what texts and borrowed values stand for
abbrev pub mistake_told : Mistake → Fault
mistake_told (mistakes.DuplicateKey key) = DuplicateKey key.now
mistake_told (mistakes.UnknownKey key) = UnknownKey key.now
mistake_told (mistakes.UnknownValue key value) = UnknownValue key.now (value_of value)
mistake_told (mistakes.MissingKey key) = MissingKey key.now
mistake_told mistakes.Combination = Combination
mistake_told (mistakes.ValueRange value lo hi) = ValueRange value lo hi

abbrev pub told_of : Explanation → Told
told_of (explanations.UnknownInstrument number) = UnknownInstrument number
told_of (explanations.On name mistake) = On name.now (mistake_told mistake)

-- the first attribute whose key stands again later
abbrev pub first_repeated : List Given → Option Given
first_repeated [] = None
first_repeated (given ∷ attrs) =
    if list_any (is_of given.0) attrs then Some given else first_repeated attrs

-- the value is in the instrument's range
abbrev pub is_in_range : Instrument → ℤ → Bool
is_in_range instrument value = int_le instrument.lo value && int_le value instrument.hi

abbrev pub range_mistake : Instrument → ℤ → Option Fault
range_mistake instrument value =
    if is_in_range instrument value then None
    else Some (ValueRange value instrument.lo instrument.hi)

-- the set key was not refused for its combination
abbrev pub is_combination : Refusal → Bool
is_combination refusals.Combination = true
is_combination _ = false

abbrev pub is_combined : Result (List ℕ) Refusal → Bool
is_combined (Ok set) = true
is_combined (Err refusal) = not (is_combination refusal)

-- a combination that is not allowed, and then the range
abbrev pub combination_mistake : Instrument → Bool → ℤ → Option Fault
combination_mistake instrument combined value =
    if combined then range_mistake instrument value else Some Combination

-- a key that is missing, the first of those that the instrument declares, and then the combination
unfoldable pub missing_mistake : Instrument → List Given → Bool → ℤ → Option Fault
missing_mistake instrument attrs combined value =
    option_or (option_map (λ key. MissingKey key.name)
    (find (λ key. not (is_complete attrs key)) instrument.keys))
    (combination_mistake instrument combined value)

-- the first value that is not declared for its key, and then what is missing
unfoldable pub value_mistake : Instrument → List Given → Bool → ℤ → Option Fault
value_mistake instrument attrs combined value =
    option_or (option_map (λ given. UnknownValue given.0 given.1)
    (find (λ given. not (has_declared_value instrument.keys given)) attrs))
    (missing_mistake instrument attrs combined value)

-- the first key that is not declared, and then the values
unfoldable pub key_mistake : Instrument → List Given → Bool → ℤ → Option Fault
key_mistake instrument attrs combined value =
    option_or (option_map (λ given. UnknownKey given.0)
    (find (λ given. not (is_declared instrument.keys given)) attrs))
    (value_mistake instrument attrs combined value)

-- # explained (profile) [mistake_of, explained, said_of]
-- The first mistake of what a recording says: a key that stands again, a key or a value that is not
-- declared, a key that is missing, a combination that is not allowed, a value outside the range; it
-- is told of the first refusal.
unfoldable pub mistake_of : Instrument → List Given → Bool → ℤ → Option Fault
mistake_of instrument attrs combined value =
    option_or (option_map (λ given. DuplicateKey given.0) (first_repeated attrs))
    (key_mistake instrument attrs combined value)

abbrev pub explained_with : ℕ → Option Instrument → List Given → Bool → ℤ → Option Told
explained_with number None attrs combined value = Some (UnknownInstrument number)
explained_with number (Some instrument) attrs combined value =
    option_map (On instrument.name) (mistake_of instrument attrs combined value)

-- what is told of a recording on the instrument of a number
abbrev pub explained : List Instrument → ℕ → List Given → ℤ → Option Told
explained instruments number attrs value =
    explained_with number (slice_get instruments number) attrs
    (is_combined (encode_of instruments number attrs)) value

-- the refusal that it explains
abbrev pub refusal_for : Fault → Refusal
refusal_for (DuplicateKey key) = refusals.DuplicateKey
refusal_for (UnknownKey key) = refusals.UnknownKey
refusal_for (UnknownValue key value) = refusals.UnknownValue
refusal_for (MissingKey key) = refusals.MissingKey
refusal_for Combination = refusals.Combination
refusal_for (ValueRange value lo hi) = refusals.ValueRange

abbrev pub refusal_of : Told → Refusal
refusal_of (UnknownInstrument number) = refusals.UnknownInstrument
refusal_of (On name fault) = refusal_for fault

-- the set key of what a recording says, or the first refusal: first of its instrument and
-- its attributes, then of its value
unfoldable pub said_of : List Instrument → ℕ → List Given → ℤ → Result (List ℕ) Refusal
said_of instruments number attrs value = do
  set ← encode_of instruments number attrs
  instrument ← require_some (slice_get instruments number) refusals.UnknownInstrument
  _ ← require (is_in_range instrument value) refusals.ValueRange
  Ok set
