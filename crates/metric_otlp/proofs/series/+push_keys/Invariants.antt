-- It calls itself with fewer keys.
use Rattle.std.proofs.Common.{length}
use Rattle.metric_otlp.proofs.series.+push_keys.Given as goal

abbrev pub decreases-push_keys : goal.decreases-push_keys
decreases-push_keys l = length l.keys.now
