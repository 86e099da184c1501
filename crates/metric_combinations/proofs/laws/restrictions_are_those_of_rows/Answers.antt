use Rattle.metric_combinations.specs.RestrictionLaws.{listed, only}
use Rattle.metric_combinations.proofs.laws.restrictions_are_those_of_rows.Goals as goal

pub returns : goal.returns
returns c = record { listed = listed; only = only }
