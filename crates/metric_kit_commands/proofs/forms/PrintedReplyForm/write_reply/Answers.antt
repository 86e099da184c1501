-- a close and a grant are told by what is written for them
use Rattle.std.proofs.Common.{rules}
use Rattle.metric_kit_commands.proofs.forms.PrintedReplyForm.write_reply.Goals as goal

pub returns-in-Done-clause-ok : goal.returns-in-Done-clause-ok
returns-in-Done-clause-ok g c = search rules

pub returns-in-Done-clause-prefix : goal.returns-in-Done-clause-prefix
returns-in-Done-clause-prefix g c = search rules

pub returns-in-Granted-clause-ok : goal.returns-in-Granted-clause-ok
returns-in-Granted-clause-ok g c = search rules

pub returns-in-Granted-clause-prefix : goal.returns-in-Granted-clause-prefix
returns-in-Granted-clause-prefix g c = search rules
