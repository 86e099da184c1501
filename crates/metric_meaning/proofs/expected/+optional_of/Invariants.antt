-- the keys that are left become fewer
use Rattle.std.proofs.Common.{length}
use Rattle.metric_meaning.proofs.expected.+optional_of.Given as goal

abbrev pub decreases-optional_of : goal.decreases-optional_of
decreases-optional_of l = length l.keys.now
