-- the slips end at the place exactly where it is not below their number
use Rattle.metric_audit.proofs.SlipLaws.{end-says}
use Rattle.metric_audit.proofs.slips.is_end.Goals as goal

pub returns-in-Some : goal.returns-in-Some
returns-in-Some c = end-says c.args.slips.now c.args.place c.in-Some.at c.in-Some.is
