use Rattle.std.proofs.Common.{rules}
use Rattle.metric_glob.proofs.confirming.steps_stay.Goals as goal

pub returns-then-is_none : goal.returns-then-is_none
returns-then-is_none c = search rules
