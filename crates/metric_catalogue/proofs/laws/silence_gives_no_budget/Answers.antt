-- all tables of recorders
use Rattle.metric_catalogue.proofs.Silences.{all_silent}
use Rattle.metric_catalogue.proofs.laws.silence_gives_no_budget.Goals as goal

pub returns : goal.returns
returns c = λ named tables recorders number one declared here quiet. all_silent named number one here tables recorders declared quiet
