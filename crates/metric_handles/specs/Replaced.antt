-- Values that a catalogue does not declare, replaced.
use Rattle.std.specs.Prelude.{ℕ, ◌+◌, ◌==◌, ℤ, Bool, min, if◌then◌else◌, int_le, List, find, Result}
use Rattle.std.specs.Prelude.{Ok, Err, is_some, slice_get}
use Rattle.std.specs.Option.{option_map_or}
use Rattle.metric_base.specs.Steps.{◌>>=◌, require_some}
use Rattle.metric_names.specs.declared.value.AttrValue.{AttrValue}
use Rattle.metric_names.specs.declared.value.ValueRef.{ValueRef}
use Rattle.metric_names.specs.Values.{value_of}
use Rattle.metric_contents.specs.declared.attributes.Attr.{Attr}
use Rattle.metric_contents.specs.declared.contents.Instrument.{Instrument}
use Rattle.metric_contents.specs.declared.contents.Key.{Key}
use Rattle.metric_contents.specs.declared.refusal.Refusal.{Refusal}
use Rattle.metric_contents.specs.declared.refusal.Refusal.TheVariants.{UnknownInstrument, UnknownKey}
use Rattle.metric_contents.specs.KeyNames.{is_key}
use Rattle.metric_contents.specs.Places.{place}
use Rattle.metric_plan.specs.Plans.{PlanValue, print_of}
use Rattle.metric_handles.specs.Bounds.{HandleValue, number_in}

-- one more, up to the greatest number of 64 bits
abbrev pub one_more : ℕ → ℕ
one_more count = min (count + 1) 18446744073709551615

-- the instrument of a number, or that there is none
abbrev pub instrument_at : List Instrument → ℕ → Result Instrument Refusal
instrument_at instruments number = require_some (slice_get instruments number) UnknownInstrument

-- the key of a name that the instrument of a number declares, or what is not declared
abbrev pub key_at : List Instrument → ℕ → List ℕ → Result Key Refusal
key_at instruments number name =
    instrument_at instruments number >>= λ i. require_some (find (is_key name) i.keys) UnknownKey

-- # known value, nearest number (profile) [is_known, known_or, clamped_in, counted_after]
-- The instrument declares the value for the key; the number of its range that is next to a value;
-- or the instrument or the key that is not declared.
abbrev pub is_known : Key → AttrValue → Bool
is_known key value = is_some (place key.values value)

-- the number of the instrument's range that is next to a value
abbrev pub nearest : Instrument → ℤ → ℤ
nearest instrument value =
    if int_le instrument.lo value then (if int_le value instrument.hi then value else instrument.hi)
    else instrument.lo

-- a count after a look at a value: one more where the value was replaced
abbrev pub counted_unless : Bool → ℕ → ℕ
counted_unless kept count = if kept then count else one_more count

-- the same where there may be nothing to look at
abbrev pub counted_after : Result Bool Refusal → ℕ → ℕ
counted_after (Ok kept) count = counted_unless kept count
counted_after (Err refusal) count = count

-- whether a key of this name on the instrument of a number declares the value
abbrev pub keeps_value : List Instrument → ℕ → List ℕ → AttrValue → Result Bool Refusal
keeps_value instruments number name value =
    key_at instruments number name >>= λ key. Ok (is_known key value)

-- the attribute, where a key of its name on the instrument of a number declares its value, else
-- with another value
abbrev pub known_or : List Instrument → ℕ → Attr → ValueRef → Result Attr Refusal
known_or instruments number attr other =
    keeps_value instruments number attr.key.now (value_of attr.value) >>= λ kept.
    Ok (if kept then attr else record attr { value = other })

-- the number of the range of the instrument of a number that is next to a value, or the value itself
-- where there is none
abbrev pub nearest_at : List Instrument → ℕ → ℤ → ℤ
nearest_at instruments number value =
    option_map_or (λ (i : Instrument). nearest i value) (slice_get instruments number) value

-- ---- the same by a handle, which is a stranger to another plan

abbrev pub keeps_value_in : PlanValue → HandleValue → List ℕ → AttrValue → Result Bool Refusal
keeps_value_in plan handle name value =
    number_in plan handle >>= λ number.
    keeps_value plan.facts.contents.instruments number name value

abbrev pub known_or_in : PlanValue → HandleValue → Attr → ValueRef → Result Attr Refusal
known_or_in plan handle attr other =
    number_in plan handle >>= λ number.
    known_or plan.facts.contents.instruments number attr other

-- the number of the range of the handle's instrument that is next to a value, or the value itself
-- where the plan has no such instrument
abbrev pub clamped_in : PlanValue → HandleValue → ℤ → ℤ
clamped_in plan handle value =
    if handle.plan == print_of plan
    then nearest_at plan.facts.contents.instruments handle.number value else value
