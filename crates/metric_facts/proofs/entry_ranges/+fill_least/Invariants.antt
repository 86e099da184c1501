-- each call leaves a key out
use Rattle.std.proofs.Common.{length}
use Rattle.metric_facts.proofs.entry_ranges.+fill_least.Given as goal

abbrev pub decreases-fill_least : goal.decreases-fill_least
decreases-fill_least l = length l.keys.now
