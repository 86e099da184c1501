-- What dialects have.
use Rattle.std.specs.Prelude.{ℕ, Bool, true, false, Option, Some, None}
use Rattle.metric_exposition.specs.declared.dialect.Dialect.{Dialect}
use Rattle.metric_exposition.specs.declared.dialect.Dialect.TheVariants.{Text, OpenMetrics}
use Rattle.metric_exposition.specs.declared.dialect.Dialect.TheVariants.{OpenMetricsCreated}

-- # dialect (Prometheus text format, OpenMetrics) [is_open_metrics, created_at]
-- The text format, OpenMetrics, or that with the lines that tell when series begin.
abbrev pub is_open_metrics : Dialect → Bool
is_open_metrics Text = false
is_open_metrics OpenMetrics = true
is_open_metrics OpenMetricsCreated = true

-- when the points begin, where it is told
abbrev pub created_at : Dialect → ℕ → Option ℕ
created_at Text start = None
created_at OpenMetrics start = None
created_at OpenMetricsCreated start = Some start
