use Rattle.std.proofs.Common.{codes, rules}
use Rattle.metric_queries.proofs.Texts.{other}
use Rattle.metric_queries.proofs.matching.scope_text.Goals as goal

pub returns-in_default : goal.returns-in_default
returns-in_default c =
    let label = c.args.label.now in
    rw (other (codes "otel_scope_name") label c.in_default.not-otel_scope_name, other (codes "otel_scope_version") label c.in_default.not-otel_scope_version, other (codes "otel_scope_schema_url") label c.in_default.not-otel_scope_schema_url)
