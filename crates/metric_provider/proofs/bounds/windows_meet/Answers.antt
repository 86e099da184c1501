-- what was seen is the batch before
use Rattle.metric_provider.proofs.WindowLaws.{meets}
use Rattle.metric_provider.proofs.bounds.windows_meet.Goals as goal

pub returns : goal.returns
returns c p seat instrument first later own before after found told then = meets p seat instrument first later own before after found told then
