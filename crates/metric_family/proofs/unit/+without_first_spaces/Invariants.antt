-- It calls itself with fewer characters.
use Rattle.std.proofs.Common.{length}
use Rattle.metric_family.proofs.unit.+without_first_spaces.Given as goal

abbrev pub decreases-without_first_spaces : goal.decreases-without_first_spaces
decreases-without_first_spaces l = length l.text.now
