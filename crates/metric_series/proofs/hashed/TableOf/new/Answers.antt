-- no series yet
use Rattle.std.proofs.Common.{refl, ◌∙◌}
use Rattle.metric_series.proofs.Adding.{stands_for_none}
use Rattle.metric_series.proofs.hashed.TableOf.new.Goals as goal

pub returns : goal.returns
returns g c = λ s kept limit aggregation. stands_for_none g.A.Aggregate _ s c.with_hasher.ensures.empty refl (c.new.ensures ∙ kept) limit aggregation
