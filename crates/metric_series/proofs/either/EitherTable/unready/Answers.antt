-- the table that is there is what it was
use Rattle.std.proofs.Common.{sym, ap, ◌∙◌}
use Rattle.metric_series.specs.declared.either.Either.TheVariants.{Left, Right}
use Rattle.metric_series.proofs.EitherLaws.{left_was, right_was}
use Rattle.metric_series.proofs.either.EitherTable.unready.Goals as goal

pub returns-in-Left-clause-restored : goal.returns-in-Left-clause-restored
returns-in-Left-clause-restored g c = λ old set value ready.
    let was = left_was g.A.Table g.B.Table set value c.args.place old c.args.self.now c.in-Left.table ready c.in-Left.is in
    ap Left (c.unready.ensures.restored was.0 set value was.2) ∙ sym was.1

pub returns-in-Right-clause-restored : goal.returns-in-Right-clause-restored
returns-in-Right-clause-restored g c = λ old set value ready.
    let was = right_was g.A.Table g.B.Table set value c.args.place old c.args.self.now c.in-Right.table ready c.in-Right.is in
    ap Right (c.unready-in-Right.ensures.restored was.0 set value was.2) ∙ sym was.1
