-- what holds of the events so far
use Rattle.std.proofs.Common.{◌≡◌, ℕ, ◌≤◌, length, take, vec_capacity}
use Rattle.metric_core.specs.CoreStands.{AreCellsOf, CellsStand}
use Rattle.metric_history.specs.History.{History}
use Rattle.metric_history.specs.Legal.{AllLegal, grown}
use Rattle.metric_core.proofs.run.run_on.Given as goal

abbrev pub invariant-loop-event : goal.invariant-loop-event
invariant-loop-event g l = record {
  count : length l.replies.items ≡ l.event-index;
  cells : AreCellsOf l.plan.facts.instruments l.cells;
  replies : length l.events ≤ vec_capacity l.replies;
  room : vec_capacity l.room ≡ vec_capacity l.fn.room;
  legal : (since : ℕ) (h : History) → CellsStand g.B.Book.stands l.plan.facts since l.fn.cells h → AllLegal l.plan.facts since h (take l.event-index l.events) l.replies.items;
  stands : (since : ℕ) (h : History) → CellsStand g.B.Book.stands l.plan.facts since l.fn.cells h → CellsStand g.B.Book.stands l.plan.facts since l.cells (grown h (take l.event-index l.events) l.replies.items);
}
