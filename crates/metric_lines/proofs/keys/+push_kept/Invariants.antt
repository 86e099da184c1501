-- It calls itself with fewer keys.
use Rattle.std.proofs.Common.{length}
use Rattle.metric_lines.proofs.keys.+push_kept.Given as goal

abbrev pub decreases-push_kept : goal.decreases-push_kept
decreases-push_kept l = length l.keys.now
