-- It calls itself with fewer attributes.
use Rattle.std.proofs.Common.{length}
use Rattle.metric_resource.proofs.resource.+has_repeated_key.Given as goal

abbrev pub decreases-has_repeated_key : goal.decreases-has_repeated_key
decreases-has_repeated_key l = length l.attributes.now
