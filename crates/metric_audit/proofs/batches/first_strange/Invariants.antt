-- the batches so far are of readers
use Rattle.std.proofs.Common.{◌≡◌, ℕ, ◌<◌, Some}
use Rattle.std.specs.Prelude.{slice_get}
use Rattle.metric_history.specs.declared.batch.Batch.{Batch}
use Rattle.metric_audit.proofs.batches.first_strange.Given as goal

abbrev pub invariant-loop-at : goal.invariant-loop-at
invariant-loop-at l = (other : ℕ) (b : Batch) → other < l.at → slice_get l.batches other ≡ Some b → b.reader < l.readers
