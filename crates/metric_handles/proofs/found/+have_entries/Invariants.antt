-- It calls itself with fewer keys.
use Rattle.std.proofs.Common.{length}
use Rattle.metric_handles.proofs.found.+have_entries.Given as goal

abbrev pub decreases-have_entries : goal.decreases-have_entries
decreases-have_entries l = length l.keys.now
