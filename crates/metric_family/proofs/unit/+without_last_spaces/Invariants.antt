-- It calls itself with fewer characters.
use Rattle.std.proofs.Common.{length}
use Rattle.metric_family.proofs.unit.+without_last_spaces.Given as goal

abbrev pub decreases-without_last_spaces : goal.decreases-without_last_spaces
decreases-without_last_spaces l = length l.text.now
