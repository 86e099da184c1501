-- the keys that are left become fewer
use Rattle.std.proofs.Common.{length}
use Rattle.metric_meaning.proofs.comparing.+keys_difference.Given as goal

abbrev pub decreases-keys_difference : goal.decreases-keys_difference
decreases-keys_difference l = length l.keys.now
