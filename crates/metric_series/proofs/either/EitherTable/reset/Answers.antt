-- the table that is there forgets
use Rattle.std.proofs.Common.{subst}
use Rattle.metric_series.specs.Eithers.{Stands}
use Rattle.metric_series.proofs.EitherLaws.{left_was, right_was}
use Rattle.metric_series.proofs.either.EitherTable.reset.Goals as goal

pub returns-in-Left-clause-forgets : goal.returns-in-Left-clause-forgets
returns-in-Left-clause-forgets g c = λ s window stands.
    c.reset.ensures.forgets s window (subst (λ t. Stands g.A.Table g.B.Table t s window) c.in-Left.is stands)

pub returns-in-Left-clause-readied : goal.returns-in-Left-clause-readied
returns-in-Left-clause-readied g c = λ old set value place ready s window stands.
    let was = left_was g.A.Table g.B.Table set value place old c.args.self.now c.in-Left.table ready c.in-Left.is in
    c.reset.ensures.readied was.0 set value place was.2 s window (subst (λ t. Stands g.A.Table g.B.Table t s window) was.1 stands)

pub returns-in-Right-clause-forgets : goal.returns-in-Right-clause-forgets
returns-in-Right-clause-forgets g c = λ s window stands.
    c.reset-in-Right.ensures.forgets s window (subst (λ t. Stands g.A.Table g.B.Table t s window) c.in-Right.is stands)

pub returns-in-Right-clause-readied : goal.returns-in-Right-clause-readied
returns-in-Right-clause-readied g c = λ old set value place ready s window stands.
    let was = right_was g.A.Table g.B.Table set value place old c.args.self.now c.in-Right.table ready c.in-Right.is in
    c.reset-in-Right.ensures.readied was.0 set value place was.2 s window (subst (λ t. Stands g.A.Table g.B.Table t s window) was.1 stands)
