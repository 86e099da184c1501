-- what is noted of the batches so far
use Rattle.std.proofs.Common.{◌≡◌, take}
use Rattle.metric_periodic.specs.Shown.{Notes}
use Rattle.metric_periodic.proofs.showing.Showing.note.Given as goal

abbrev pub invariant-loop-batch : goal.invariant-loop-batch
invariant-loop-batch l =
    (l.self-inside.seat ≡ l.fn.self.seat)
    × Notes l.is_refused (take l.batch-index l.batches) l.fn.self.shown l.self-inside.shown.items
