-- The lines of a script, read one after the other: what they say, or
-- the lines from the faulty one on.
use Rattle.std.specs.Prelude.{◌≡◌, ℕ, if◌then◌else◌, List, [], ◌∷◌, Option, Some, None, Result, Ok}
use Rattle.std.specs.Prelude.{Err}
use Rattle.std.specs.Borrow.{Bor}
use Rattle.metric_base.specs.Steps.{◌>>=◌}
use Rattle.metric_history.specs.declared.event.Event.{Event}
use Rattle.metric_parts.specs.Reading.{texts}
use Rattle.metric_text.specs.declared.fault.SpellingFault.{SpellingFault}
use Rattle.metric_text.specs.declared.fault.SpellingFault.TheVariants.{Bad, Memory as WantOfMemory}
use Rattle.metric_script.specs.Events.{events_in}
use Rattle.metric_script.specs.Reading.{start_in}
use Rattle.metric_script.specs.Scripts.{is_passed_over}
use Rattle.metric_script.specs.declared.events.ScriptEvents.{ScriptEvents}
use Rattle.metric_script.specs.declared.stop.Stop.{Stop}
use Rattle.metric_script.specs.declared.stop.Stop.TheVariants.{At, Memory}

-- What a function returned is what reading gives, unless memory ran out.
abbrev pub TellsLines : {X Y : Type 0} → (X → Y) → Result X Stop → Result Y (List (List ℕ)) → Type 0
TellsLines view (Ok x) read = read ≡ Ok (view x)
TellsLines view (Err (At rest)) read = read ≡ Err (texts rest.now)
TellsLines view (Err Memory) read = Unit {0}

-- the reading stops at the first of these lines for this reason
abbrev pub stop_of : Bor (List (Bor (List ℕ))) → SpellingFault → Stop
stop_of lines Bad = At lines
stop_of lines WantOfMemory = Memory

-- the start that a line spells and the lines after it, or the lines from it on
abbrev pub begun_by : Option ℕ → List ℕ → List (List ℕ) → Result (ℕ × List (List ℕ)) (List (List ℕ))
begun_by (Some start) line lines = Ok (start, lines)
begun_by None line lines = Err (line ∷ lines)

-- the start, and the lines after it
unfoldable pub begun_in : List (List ℕ) → Result (ℕ × List (List ℕ)) (List (List ℕ))
begun_in [] = Err []
begun_in (line ∷ lines) =
    if is_passed_over line then begun_in lines else begun_by (start_in line) line lines

-- the start, and then the events
unfoldable pub script_in : List (List ℕ) → Result ScriptEvents (List (List ℕ))
script_in lines =
    begun_in lines >>= λ begun.
    (events_in begun.1 >>= λ events. Ok (record { start = begun.0; events = events }))

-- the events of a script; of other lines none
abbrev pub events_read : Result ScriptEvents (List (List ℕ)) → List Event
events_read (Ok script) = script.events
events_read (Err rest) = []

abbrev pub script_events : List (List ℕ) → List Event
script_events lines = events_read (script_in lines)
