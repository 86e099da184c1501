-- laws of the definitions
use Rattle.metric_resolve.proofs.CollisionLaws.{collisions_exact}
use Rattle.metric_resolve.proofs.Same.{is_same-Decides}
use Rattle.metric_resolve.specs.IdentityLaws.{identity_order_total}
use Rattle.metric_resolve.proofs.laws.collisions_are_of_one_identity.Goals as goal

pub returns : goal.returns
returns c = record { same = is_same-Decides; order = identity_order_total; exact = collisions_exact }
