-- what is left is enough for the rest exactly where the room is enough for all
use Rattle.std.proofs.Common.{◌≤◌, ◌↔◌, length}
use Rattle.metric_handles.specs.Jobs.{needed_in}
use Rattle.metric_handles.proofs.jobs.is_within.Given as goal

abbrev pub invariant-loop-rest : goal.invariant-loop-rest
invariant-loop-rest l = (needed_in l.rest l.fn.instrument ≤ l.left) ↔ (needed_in l.fn.job l.fn.instrument ≤ l.fn.room)

abbrev pub decreases-loop-rest : goal.decreases-loop-rest
decreases-loop-rest l = length l.rest
