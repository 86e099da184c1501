-- the copies so far are the values so far
use Rattle.std.proofs.Common.{◌≡◌, take}
use Rattle.metric_base.proofs.copied.copy_all.Given as goal

abbrev pub invariant-loop-value : goal.invariant-loop-value
invariant-loop-value g l = l.copies ≡ take l.value-index l.values
