-- what the aggregate gives, or no point
use Rattle.std.proofs.Common.{sym, ap, ◌∙◌}
use Rattle.std.proofs.lemmas.Result.{IfOk-weaker}
use Rattle.metric_series.proofs.Reading.{no_overflow, overflow_is}
use Rattle.metric_series.proofs.hashed.TableOf.overflow_point.Goals as goal

pub returns-in-Some : goal.returns-in-Some
returns-in-Some g c =
    IfOk-weaker c.point_of.result _ _
    (λ point read s window stands.
    overflow_is g.A.Aggregate c.args.self.now s window stands c.in-Some.overflow point (ap (λ t. t.overflow) (sym c.self.view_is) ∙ c.in-Some.is) read)
    c.point_of.ensures

pub returns-in-None : goal.returns-in-None
returns-in-None g c = λ s window stands. no_overflow g.A.Aggregate c.args.self.now s window stands (ap (λ t. t.overflow) (sym c.self.view_is) ∙ c.in-None.is)
