-- What the lanes looked at so far report together, and what a reader is then told.
use Rattle.std.specs.Prelude.{◌≡◌, ◌+◌, ◌≤◌, true, List, max, slice_index, slice_index_or}
use Rattle.metric_contents.specs.declared.refusal.Refusal.{Refusal}
use Rattle.metric_contents.specs.declared.refusal.Refusal.TheVariants.{Stranger, Memory}
use Rattle.metric_core.specs.Cells.{CellValue}
use Rattle.metric_facts.specs.declared.facts.Facts.{Facts}
use Rattle.metric_history.specs.declared.batch.Batch.{Batch}
use Rattle.metric_history.specs.declared.batch.StreamPoints.{StreamPoints}
use Rattle.metric_safety.specs.SafeFacts.{total}
use Rattle.metric_safety.specs.WindowBounds.{IsReportWithin}
use Rattle.metric_slot.specs.SlotAnswers.{Continues, ReportsJournal}
use Rattle.metric_slot.specs.declared.seen.Seen.{Seen}
use Rattle.metric_lanes.specs.Joined.{all_join}
use Rattle.metric_lanes.specs.declared.gathered.Asked.{Asked}
use Rattle.metric_lanes.specs.declared.gathered.Gathered.{Gathered}

-- # gathered (SDK, collect)
-- A batch that goes on where the reader's last one ended, and reports recordings that the
-- instrument may have accepted: what one lane reports, and what several report together.
pub record Gathers (own : Facts) (g : Gathered) : Type 0 where
  pub continues : Continues own g.asked.start g.asked.reader g.last g.batch
  pub journal : ReportsJournal own g.asked.reader g.last.mark g.batch
  pub time : g.batch.time ≡ max g.asked.now g.last.time

-- # report of a lane (SDK, collect)
-- The batch that a lane's cell tells, with the reader's last batch of that lane.
abbrev pub lane_of : {B : Type 0} → CellValue B → Asked → Batch → Gathered
lane_of c asked told = record {
  asked = asked;
  last = record {
    mark = slice_index c.marks asked.reader;
    time = slice_index_or c.times asked.reader c.start;
  };
  batch = told;
}

-- # lanes that go together (profile) [GoTogether, of_both, RefusesLane]
-- The instrument's values join, the reader's last batch of both is of one time, and they have no
-- more recordings than its budgets and its spare allow.
pub record GoTogether (own : Facts) (a b : Gathered) : Type 0 where
  pub join : all_join own ≡ true
  pub time : a.last.time ≡ b.last.time
  pub budgeted : a.batch.mark + b.batch.mark ≤ total own

-- What both report, where these are their streams' points: marks are added, all else is that of the
-- first.
abbrev pub of_both : Gathered → Gathered → List StreamPoints → Gathered
of_both a b streams = record {
  asked = a.asked;
  last = record { mark = a.last.mark + b.last.mark; time = a.last.time };
  batch = record a.batch {
    from = a.batch.from + b.batch.from;
    mark = a.batch.mark + b.batch.mark;
    streams = streams;
  };
}

-- `Stranger` exactly where they do not go together, else `Memory`
abbrev pub RefusesLane : Facts → Gathered → Gathered → Refusal → Type 0
RefusesLane own a b Stranger = GoTogether own a b → ⊥
RefusesLane own a b Memory = GoTogether own a b
RefusesLane own a b other = ⊥

-- # told by all lanes (SDK, collect)
-- What a reader is told that has seen so much: a batch that goes on where its last one ended, of
-- recordings that the instrument may have accepted, within its bounds, at the time that was asked
-- for or at that of the last one, where that is later.
pub record IsTold (own : Facts) (asked : Asked) (seen : Seen) (told : Batch) : Type 0 where
  pub continues : Continues own asked.start asked.reader seen told
  pub journal : ReportsJournal own asked.reader seen.mark told
  pub within : IsReportWithin own told.from told.mark told.streams
  pub time : told.time ≡ max asked.now seen.time
