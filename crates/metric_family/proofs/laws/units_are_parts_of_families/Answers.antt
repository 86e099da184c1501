-- a law of the definitions
use Rattle.metric_family.proofs.UnitLaws.{units_are_parts_of_families}
use Rattle.metric_family.proofs.laws.units_are_parts_of_families.Goals as goal

pub returns : goal.returns
returns c = units_are_parts_of_families
