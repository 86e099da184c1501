-- a core stands for no events since its start
use Rattle.std.proofs.Common.{rules}
use Rattle.metric_core.proofs.run.Core.new.Goals as goal

pub returns-in-Ok-clause-start : goal.returns-in-Ok-clause-start
returns-in-Ok-clause-start g c = search rules

pub returns-in-Ok-clause-stands : goal.returns-in-Ok-clause-stands
returns-in-Ok-clause-stands g c = search rules
