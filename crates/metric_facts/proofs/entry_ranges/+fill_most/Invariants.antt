-- each call leaves a key out
use Rattle.std.proofs.Common.{length}
use Rattle.metric_facts.proofs.entry_ranges.+fill_most.Given as goal

abbrev pub decreases-fill_most : goal.decreases-fill_most
decreases-fill_most l = length l.keys.now
