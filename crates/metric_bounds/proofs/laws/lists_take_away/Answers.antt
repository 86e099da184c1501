-- what sound rows leave is within the product
use Rattle.metric_bounds.specs.KeptLaws.{own_flags}
use Rattle.metric_bounds.specs.SetLaws.{sets_within_product}
use Rattle.metric_resolve.proofs.StreamLaws.{streams_exact}
use Rattle.metric_bounds.proofs.laws.lists_take_away.Goals as goal

pub returns : goal.returns
returns c = λ contents config stream sound there. sets_within_product contents stream sound (own_flags contents config stream ((streams_exact contents config stream).0 there))
