-- the keys, and their order
use Rattle.metric_history.specs.PointLaws.{ascending-IsPermutation}
use Rattle.metric_history.specs.AscendingLaws.{ascending-IsSorted}
use Rattle.metric_history.proofs.laws.ascending_sorts_keys.Goals as goal

pub returns : goal.returns
returns c = record { keys = ascending-IsPermutation; sorted = ascending-IsSorted }
