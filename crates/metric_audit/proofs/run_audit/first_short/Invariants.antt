-- the readers so far have counted all
use Rattle.std.proofs.Common.{ℕ, ◌<◌, ◌≤◌}
use Rattle.metric_audit.specs.Batches.{mark_after}
use Rattle.metric_audit.proofs.run_audit.first_short.Given as goal

abbrev pub invariant-loop-reader : goal.invariant-loop-reader
invariant-loop-reader l = (reader : ℕ) → reader < l.reader → l.count ≤ mark_after reader l.told
