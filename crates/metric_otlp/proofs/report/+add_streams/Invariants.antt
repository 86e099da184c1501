-- It calls itself with fewer points of streams.
use Rattle.std.proofs.Common.{length}
use Rattle.metric_otlp.proofs.report.+add_streams.Given as goal

abbrev pub decreases-add_streams : goal.decreases-add_streams
decreases-add_streams l = length l.all.now
