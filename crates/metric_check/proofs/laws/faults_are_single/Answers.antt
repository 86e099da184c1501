-- the lemma
use Rattle.metric_check.proofs.Singles.{finds_one}
use Rattle.metric_check.proofs.laws.faults_are_single.Goals as goal

pub returns : goal.returns
returns c = finds_one
