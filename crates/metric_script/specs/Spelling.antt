-- How the lines of a script are spelled.
use Rattle.std.specs.Prelude.{◌<◌, ℕ, ◌^◌, List, ◌∷◌, ◌++◌, codes, IsUtf8, FitsSigned}
use Rattle.std.specs.Int.{w64}
use Rattle.std.specs.Fmt.{decimal, signed_decimal}
use Rattle.std.specs.List.{AllByRecursion, flat_map}
use Rattle.metric_contents.specs.declared.attributes.OwnedAttr.{OwnedAttr}
use Rattle.metric_history.specs.declared.event.Event.{Event}
use Rattle.metric_history.specs.declared.event.Event.TheVariants.{Record, Collect, Close, Grant}
use Rattle.metric_text.specs.Written.{IsValue, pair_text}

-- an attribute, with the space before it
abbrev pub attribute_text : OwnedAttr → List ℕ
attribute_text attr = 32 ∷ pair_text attr.key attr.value

-- # line of the start, line of an event (profile) [start_text, event_text, attribute_text]
-- `start`, `record`, `collect`, `close` and `grant` with their numbers, values and attributes, a
-- blank before each.
abbrev pub start_text : ℕ → List ℕ
start_text start = codes "start " ++ decimal start

-- two numbers with a space between, and what follows
abbrev pub two_numbers_text : ℕ → ℕ → List ℕ → List ℕ
two_numbers_text first second rest = decimal first ++ (32 ∷ (decimal second ++ rest))

-- the line of an event
abbrev pub event_text : Event → List ℕ
event_text (Record recorder instrument attrs value) =
    codes "record " ++ two_numbers_text recorder instrument
    (32 ∷ (signed_decimal value ++ flat_map attribute_text attrs))
event_text (Collect reader instrument now) =
    codes "collect " ++ two_numbers_text reader instrument (32 ∷ decimal now)
event_text (Close instrument) = codes "close " ++ decimal instrument
event_text (Grant recorder instrument amount) =
    codes "grant " ++ two_numbers_text recorder instrument (32 ∷ decimal amount)

-- an attribute whose key and value a program can hold
abbrev pub FitsAttribute : OwnedAttr → Type 0
FitsAttribute attr = IsUtf8 attr.key × IsValue attr.value

-- # event that a program can hold (profile)
-- Its numbers, its value and its texts are within their types.
abbrev pub FitsEvent : Event → Type 0
FitsEvent (Record recorder instrument attrs value) =
    (recorder < 2 ^ 32) × (instrument < 2 ^ 32) × FitsSigned w64 value
    × AllByRecursion FitsAttribute attrs
FitsEvent (Collect reader instrument now) =
    (reader < 2 ^ 32) × (instrument < 2 ^ 32) × (now < 2 ^ 64)
FitsEvent (Close instrument) = instrument < 2 ^ 32
FitsEvent (Grant recorder instrument amount) =
    (recorder < 2 ^ 32) × (instrument < 2 ^ 32) × (amount < 2 ^ 64)
