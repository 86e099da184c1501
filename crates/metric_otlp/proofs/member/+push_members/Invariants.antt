-- It calls itself with fewer members.
use Rattle.std.proofs.Common.{length}
use Rattle.metric_otlp.proofs.member.+push_members.Given as goal

abbrev pub decreases-push_members : goal.decreases-push_members
decreases-push_members l = length l.members.now
