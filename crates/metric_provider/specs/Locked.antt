-- What stands behind the locks of a provider.
use Rattle.std.specs.Prelude.{◌≡◌, ◌<◌, ℕ, Bool, true, All, List, length, map}
use Rattle.metric_history.specs.Journals.{Standing}
use Rattle.metric_history.specs.declared.slip.Slip.{Slip}
use Rattle.metric_core.specs.Cells.{CellKept, CellValue}
use Rattle.metric_facts.specs.declared.facts.Facts.{Facts}
use Rattle.metric_history.specs.declared.entry.Entry.{Entry}
use Rattle.metric_plan.specs.Plans.{PlanValue}
use Rattle.metric_seat.specs.declared.total.Total.{Total}
use Rattle.metric_seat.specs.Seats.{RecorderValue}
use Rattle.metric_seat.specs.Settlements.{has_each}
use Rattle.metric_provider.specs.Lanes.{kept_by}
use Rattle.metric_provider.specs.Totals.{AreSettled, Finishes, number_of, slips_of_seats}
use Rattle.metric_provider.specs.Totals.{told_totals}

-- # instruments behind the locks (profile) [AreLanes, AreLocked]
-- An instrument has one lane or more, one behind each lock, each as a cell is kept.
pub record AreLanes {B : Type 0} (standing : B → Standing) (cells : List (CellValue B)) : Type 0 where
  pub some : 0 < length cells
  pub kept : All (CellKept standing) cells

-- So many instruments, in their order, each with its lanes.
pub record AreLocked {B : Type 0} (standing : B → Standing) (instruments : ℕ)
    (lanes : List (List (CellValue B))) : Type 0 where
  pub one_each : length lanes ≡ instruments
  pub kept : All (AreLanes standing) lanes

-- # journals behind the locks (profile)
-- What the books of each of these instruments keep, oldest first, in their order; each is settled
-- by the seats of all recorders, or of some.
pub record AreLockedJournals {B : Type 0} (whole : Bool) (standing : B → Standing)
    (kept : B → List Entry) (instruments : List Facts) (seats : List RecorderValue)
    (journals : List (List Entry)) : Type 0 where
  pub lanes : List (List (CellValue B))
  pub locked : AreLocked standing (length instruments) lanes
  pub settled : AreSettled whole kept instruments lanes seats
  pub are : journals ≡ map (kept_by kept) lanes

-- # comes to (profile) [ComesTo, IsEndOf]
-- What a provider comes to by the seats that are there: the totals are what their recorders were
-- told, the slips are theirs, the journals those behind the locks. Where each recorder has a seat,
-- it is what a provider is finished with.
pub record IsEndOf {B : Type 0} (standing : B → Standing) (kept : B → List Entry) (keeps : Bool)
    (whole : Bool) (plan : PlanValue) (seats : List RecorderValue) (totals : List Total)
    (journals : List (List Entry)) (slips : List (List (List Slip))) : Type 0 where
  pub told : totals ≡ told_totals seats 0 plan.facts.instruments
  pub noted : slips ≡ slips_of_seats seats (length plan.facts.contents.recorders)
      (length plan.facts.instruments)
  pub behind : AreLockedJournals whole standing kept plan.facts.instruments seats journals
  pub finished : whole ≡ true → Finishes keeps plan seats totals journals slips

-- the same, by whether each recorder has a seat
abbrev pub ComesTo : {B : Type 0} → (B → Standing) → (B → List Entry) → Bool → PlanValue
    → List RecorderValue → List Total → List (List Entry) → List (List (List Slip)) → Type 0
ComesTo standing kept keeps plan seats totals journals slips =
    IsEndOf standing kept keeps
    (has_each number_of seats (length plan.facts.contents.recorders)) plan seats totals journals
    slips
