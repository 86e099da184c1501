-- For which history a core stands.
use Rattle.std.specs.Prelude.{◌≡◌, ℕ, Bool, List, Some, length, slice_get, slice_index}
use Rattle.std.specs.Prelude.{slice_index_or, sum}
use Rattle.metric_history.specs.Journals.{Standing, kept_of}
use Rattle.metric_history.specs.declared.entry.Entry.{Entry}
use Rattle.metric_facts.specs.declared.facts.Facts.{Facts}
use Rattle.metric_facts.specs.Facts.{RunFacts}
use Rattle.metric_history.specs.Answers.{Past}
use Rattle.metric_history.specs.History.{History, accepted, told_of}
use Rattle.metric_core.specs.Cells.{CellValue, CellStands}
use Rattle.metric_plan.specs.Plans.{PlanValue}

-- A cell has what was told of its instrument since a start: its book stands for the accepted
-- recordings with the marks of the answered collections, and it has granted as much.
pub record CellKeepsTo {B : Type 0} (stands : B → Standing) (c : CellValue B) (since : ℕ)
    (told : Past) : Type 0 where
  pub known : CellStands stands c told.accepted
  pub begins : c.start ≡ since
  pub mark : (reader : ℕ) → slice_index c.marks reader ≡ told.mark reader
  pub previous : (reader : ℕ) → slice_index_or c.times reader c.start ≡ told.previous reader
  pub closed : c.is_closed ≡ told.closed
  pub granted : (recorder : ℕ) → slice_index c.granted recorder ≡ told.granted recorder
  pub handed : sum c.granted ≡ told.handed
  pub one_mark_each : length c.marks ≡ length c.facts.delta
  pub one_time_each : length c.times ≡ length c.facts.delta
  pub one_grant_each : length c.granted ≡ length c.facts.budgets

-- there is a cell for the facts of each instrument
pub record AreCellsOf {B : Type 0} (all : List Facts) (cells : List (CellValue B)) : Type 0 where
  pub one_each : length cells ≡ length all
  pub own : (i : ℕ) (c : CellValue B) → slice_get cells i ≡ Some c → slice_get all i ≡ Some c.facts

-- each cell has what the history says of its instrument
pub record CellsStand {B : Type 0} (stands : B → Standing) (facts : RunFacts) (since : ℕ)
    (cells : List (CellValue B)) (h : History) : Type 0 where
  pub cells_of : AreCellsOf facts.instruments cells
  pub each : (i : ℕ) (c : CellValue B) → slice_get cells i ≡ Some c
      → CellKeepsTo stands c since (told_of facts since h i)

pub record CoreValue (B : Type 0) : Type 0 where
  pub plan : PlanValue
  pub start : ℕ
  pub cells : List (CellValue B)

-- # stands for (profile)
-- Each instrument's cell has what the history says of the instrument.
abbrev pub CoreStands : {B : Type 0} → (B → Standing) → CoreValue B → History → Type 0
CoreStands stands core h = CellsStand stands core.plan.facts core.start core.cells h

-- the entries are what is kept of the instrument's accepted recordings in each history for which
-- the core stands: all of them, or nothing
abbrev pub TellsAccepted : {B : Type 0} → (B → Standing) → Bool → CoreValue B → ℕ
    → List Entry → Type 0
TellsAccepted stands keeps core instrument entries =
    (h : History) → CoreStands stands core h
    → entries ≡ kept_of keeps (accepted core.plan.facts h instrument)
