use Rattle.wormweekly_c.proofs.NamedSets.{ranks_name_sets}
use Rattle.wormweekly_c.proofs.laws.ranks_name_sets.Goals as goal

pub returns : goal.returns
returns c = ranks_name_sets
