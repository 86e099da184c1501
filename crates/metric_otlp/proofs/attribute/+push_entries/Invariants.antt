-- It calls itself with the entries of fewer keys.
use Rattle.std.proofs.Common.{length}
use Rattle.metric_otlp.proofs.attribute.+push_entries.Given as goal

abbrev pub decreases-push_entries : goal.decreases-push_entries
decreases-push_entries l = length l.all.now
