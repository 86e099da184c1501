-- The instrument that a meter's name, a name, a kind and a list of keys are of, or the first fault.
use Rattle.std.specs.Prelude.{ℕ, ◌+◌, Bool, false, not, ◌&&◌, List, [], ◌∷◌, Option, None, Some}
use Rattle.std.specs.Prelude.{Result, Err, Ok, drop, slice_get, if◌then◌else◌}
use Rattle.std.specs.List.{list_any, position_from}
use Rattle.std.specs.Option.{option_map_or}
use Rattle.std.specs.Str.{bytes_eq}
use Rattle.metric_base.specs.Steps.{◌>>=◌, require, require_none, require_some}
use Rattle.metric_names.specs.Names.{folded}
use Rattle.metric_contents.specs.declared.contents.Contents.{Contents}
use Rattle.metric_contents.specs.declared.contents.Instrument.{Instrument}
use Rattle.metric_contents.specs.declared.contents.Key.{Key}
use Rattle.metric_contents.specs.declared.contents.Kind.{Kind}
use Rattle.metric_contents.specs.declared.contents.Meter.{Meter}
use Rattle.metric_contents.specs.KeyNames.{is_key}
use Rattle.metric_plan.specs.Plans.{PlanValue, print_of}
use Rattle.metric_views.specs.Selection.{is_kind}
use Rattle.metric_handles.specs.Bounds.{HandleValue}
use Rattle.metric_handles.specs.declared.fault.HandleFault.{HandleFault}
use Rattle.metric_handles.specs.declared.fault.NoHandle.{NoHandle}
use Rattle.metric_handles.specs.declared.fault.HandleFault.TheVariants.{
  UnknownMeter,
  UnknownInstrument,
  Ambiguous,
  OtherKind,
  RepeatedKey,
  UnknownKey,
  MissingKey,
}

-- the meter has this name
abbrev pub is_meter_named : List ℕ → Meter → Bool
is_meter_named name meter = bytes_eq meter.name name

-- the meter of a number has this name
abbrev pub is_of_meter : List Meter → List ℕ → ℕ → Bool
is_of_meter meters name number = option_map_or (is_meter_named name) (slice_get meters number) false

-- # named instrument (API, instrument name syntax) [is_named, number_named]
-- The only one of the name, without ASCII case, in the meters of that name; else what is unknown,
-- or the first of several.
abbrev pub is_named : List Meter → List ℕ → List ℕ → Instrument → Bool
is_named meters meter name instrument =
    bytes_eq (folded instrument.name) (folded name) && is_of_meter meters meter instrument.meter

-- what is unknown where no instrument has the name: the meter, or the instrument alone
abbrev pub unknown_of : List Meter → List ℕ → HandleFault
unknown_of meters meter =
    if list_any (is_meter_named meter) meters then UnknownInstrument else UnknownMeter

-- the number of the only instrument of this name in the meters of that name
unfoldable pub number_named : Contents → List ℕ → List ℕ → Result ℕ HandleFault
number_named contents meter name = do
  let named = is_named contents.meters meter name
  first ← require_some (position_from named 0 contents.instruments)
      (unknown_of contents.meters meter)
  _ ← require (not (list_any named (drop (first + 1) contents.instruments))) (Ambiguous first)
  Ok first

-- the same, where the instrument is of the kind
unfoldable pub number_of_kind : Contents → Kind → List ℕ → List ℕ → Result ℕ HandleFault
number_of_kind contents kind meter name = do
  number ← number_named contents meter name
  instrument ← require_some (slice_get contents.instruments number) UnknownInstrument
  _ ← require (is_kind kind instrument.kind) (OtherKind instrument.kind)
  Ok number

-- the text is the same
abbrev pub is_text : List ℕ → List ℕ → Bool
is_text text other = bytes_eq other text

-- the place of the first key that stands again after it, where the list starts at a place
abbrev pub repeated_from : ℕ → List (List ℕ) → Option ℕ
repeated_from place [] = None
repeated_from place (key ∷ keys) =
    if list_any (is_text key) keys then Some place else repeated_from (place + 1) keys

-- no declared key has this name
abbrev pub is_undeclared : List Key → List ℕ → Bool
is_undeclared declared key = not (list_any (is_key key) declared)

-- the key may not be left out, and is not among these
abbrev pub is_missing : List (List ℕ) → Key → Bool
is_missing keys key = not key.optional && not (list_any (is_text key.name) keys)

-- # keys in order (profile)
-- None stands twice, each is declared, and each that may not be left out is given; or the first
-- fault with its place.
unfoldable pub keys_checked : List Key → List (List ℕ) → Result (Unit {0}) HandleFault
keys_checked declared keys = do
  _ ← require_none (repeated_from 0 keys) RepeatedKey
  _ ← require_none (position_from (is_undeclared declared) 0 keys) UnknownKey
  require_none (position_from (is_missing keys) 0 declared) MissingKey

-- the number of the instrument that all this is of, or the first fault
unfoldable pub handle_of : Contents → Kind → List ℕ → List ℕ → List (List ℕ) → Result ℕ HandleFault
handle_of contents kind meter name keys = do
  number ← number_of_kind contents kind meter name
  instrument ← require_some (slice_get contents.instruments number) UnknownInstrument
  _ ← keys_checked instrument.keys keys
  Ok number

-- # handle (API, create an instrument) [handle_in, handle_of]
-- The number of the named instrument, where it is of the kind and the keys are in order, with the
-- plan's fingerprint; or the first fault.
abbrev pub handle_in : PlanValue → Kind → List ℕ → List ℕ → List (List ℕ)
    → Result HandleValue HandleFault
handle_in plan kind meter name keys =
    handle_of plan.facts.contents kind meter name keys >>= λ number.
    Ok (record { plan = print_of plan; number = number })

-- the same, where the fault comes with words
abbrev pub is_found : Result HandleValue NoHandle → Result HandleValue HandleFault
is_found (Ok handle) = Ok handle
is_found (Err none) = Err none.fault
