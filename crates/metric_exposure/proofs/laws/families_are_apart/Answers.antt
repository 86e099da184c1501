-- laws of the definitions
use Rattle.metric_exposure.proofs.Gathered.{families_are_apart, none_claims_the_target}
use Rattle.metric_exposure.proofs.laws.families_are_apart.Goals as goal

pub returns : goal.returns
returns c = record { streams = families_are_apart; target = none_claims_the_target }
