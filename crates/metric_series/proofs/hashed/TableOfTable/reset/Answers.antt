-- no series is left, also of a table that was made ready
use Rattle.std.proofs.Common.{refl, ap, ◌∙◌}
use Rattle.metric_series.proofs.Adding.{stands_for_none}
use Rattle.metric_series.proofs.Putting.{forgotten}
use Rattle.metric_series.proofs.hashed.TableOfTable.reset.Goals as goal

pub returns-clause-forgets : goal.returns-clause-forgets
returns-clause-forgets g c = λ s window known.
    stands_for_none g.A.Aggregate _ s c.clear.ensures.empty refl (ap (λ t. t.kept) c.self.view_is ∙ known.kept) (ap (λ t. t.limit) c.self.view_is ∙ known.limit)
    (ap (λ t. g.A.Aggregate.aggregation_of t.parameters) c.self.view_is ∙ known.aggregation)

pub returns-clause-readied : goal.returns-clause-readied
returns-clause-readied g c = λ old set value place ready.
    forgotten g.A.Aggregate old c.args.self.now set value place _ ready c.clear.ensures.empty refl (ap (λ t. t.kept) c.self.view_is) (ap (λ t. t.limit) c.self.view_is)
    (ap (λ t. t.parameters) c.self.view_is)
