-- one key fewer
use Rattle.std.proofs.Common.{length}
use Rattle.metric_facts.proofs.full_sets.+is_full_set.Given as goal

abbrev pub decreases-is_full_set : goal.decreases-is_full_set
decreases-is_full_set l = length l.keys.now
