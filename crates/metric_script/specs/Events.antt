-- The events of lines, read one after the other: the events, or the lines from the faulty one on.
use Rattle.std.specs.Prelude.{ℕ, Bool, ◌||◌, if◌then◌else◌, List, [], ◌∷◌, ◌++◌, Option, Some, None}
use Rattle.std.specs.Prelude.{Result, Ok, Err, is_some}
use Rattle.metric_history.specs.declared.event.Event.{Event}
use Rattle.metric_script.specs.Reading.{event_in}
use Rattle.metric_script.specs.Scripts.{is_passed_over}

-- events before those that reading gives
abbrev pub after_events : List Event → Result (List Event) (List (List ℕ))
    → Result (List Event) (List (List ℕ))
after_events before (Ok events) = Ok (before ++ events)
after_events before (Err rest) = Err rest

-- the event that a line spells before those that reading the lines after
-- it gives, or the lines from it on
abbrev pub with_event : Option Event → List ℕ → List (List ℕ) → Result (List Event) (List (List ℕ))
    → Result (List Event) (List (List ℕ))
with_event (Some event) line lines others = after_events (event ∷ []) others
with_event None line lines others = Err (line ∷ lines)

-- the events of the lines that are not passed over
unfoldable pub events_in : List (List ℕ) → Result (List Event) (List (List ℕ))
events_in [] = Ok []
events_in (line ∷ lines) =
    if is_passed_over line then events_in lines
    else with_event (event_in line) line lines (events_in lines)

-- the events where each line is passed over or spells one, and else none
abbrev pub read_events : Result (List Event) (List (List ℕ)) → List Event
read_events (Ok events) = events
read_events (Err rest) = []

-- a line that is passed over or spells an event
abbrev pub is_line_of_event : List ℕ → Bool
is_line_of_event line = is_passed_over line || is_some (event_in line)
