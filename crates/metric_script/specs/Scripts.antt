-- What a script is, and which of its lines is the first faulty one.
use Rattle.std.specs.Prelude.{◌≡◌, ℕ, ◌+◌, ◌<◌, ◌^◌, Bool, true, not, ◌==◌, List, [], ◌∷◌, filter}
use Rattle.std.specs.Prelude.{map}
use Rattle.std.specs.List.{AllByRecursion}
use Rattle.metric_base.specs.Fronts.{BreaksOffAt}
use Rattle.metric_history.specs.declared.event.Event.{Event}
use Rattle.metric_parts.specs.Texts.{ScriptLines}
use Rattle.metric_script.specs.Spelling.{start_text, event_text, FitsEvent}

-- # line that is passed over (profile)
-- It is empty or begins with `#`.
abbrev pub is_passed_over : List ℕ → Bool
is_passed_over [] = true
is_passed_over (b ∷ line) = b == 35

-- the lines that are not passed over
abbrev pub read_lines : List (List ℕ) → List (List ℕ)
read_lines lines = filter (λ line. not (is_passed_over line)) lines

-- # script (profile)
-- Lines of which those that are not passed over spell the start and then each event.
pub record IsScript (lines : List (List ℕ)) (start : ℕ) (events : List Event) : Type 0 where
  pub spelled : read_lines lines ≡ start_text start ∷ map event_text events
  pub start_fits : start < 2 ^ 64
  pub events_fit : AllByRecursion FitsEvent events

-- # first faulty line of a script (profile) [IsSomeScript, IsFirstFault, IsFirstFaultAt]
-- The line at which lines break off that are to be a script, and its number in the whole input.
pub record IsSomeScript (lines : List (List ℕ)) : Type 0 where
  pub start : ℕ
  pub events : List Event
  pub is_script : IsScript lines start events

-- The line at this place, counted from 0, is the first with which no script goes on. Where the
-- lines are the beginning of a script and no script, it is the place after the last.
abbrev pub IsFirstFault : List (List ℕ) → ℕ → Type 0
IsFirstFault lines place = BreaksOffAt IsSomeScript lines place

-- The line that has this number in the input is the first fault of the script.
pub record IsFirstFaultAt (script : ScriptLines) (number : ℕ) : Type 0 where
  pub place : ℕ
  pub numbered : number ≡ script.first_line + place
  pub fault : IsFirstFault script.lines place
