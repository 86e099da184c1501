use Rattle.std.proofs.Common.{codes, sym, ◌∙◌}
use Rattle.metric_queries.proofs.Texts.{flipped}
use Rattle.metric_queries.proofs.matching.overflow_text.Goals as goal

pub returns : goal.returns
returns c =
    rw (flipped (codes "otel_metric_overflow") c.args.label.now (sym c.eq.ensures ∙ c.if-eq.false)) c.scope_text.ensures
