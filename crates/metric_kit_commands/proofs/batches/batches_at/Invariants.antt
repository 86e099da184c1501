-- the batches at the places so far
use Rattle.std.proofs.Common.{◌≡◌, take}
use Rattle.metric_kit_commands.specs.Accounts.{batches_at}
use Rattle.metric_kit_commands.proofs.batches.batches_at.Given as goal

abbrev pub invariant-loop-place : goal.invariant-loop-place
invariant-loop-place l = l.batches.items ≡ batches_at l.replies (take l.place-index l.places)
