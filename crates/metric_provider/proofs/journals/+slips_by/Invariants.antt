-- one seat fewer
use Rattle.std.proofs.Common.{length}
use Rattle.metric_provider.proofs.journals.+slips_by.Given as goal

abbrev pub decreases-slips_by : goal.decreases-slips_by
decreases-slips_by l = length l.seats.now
