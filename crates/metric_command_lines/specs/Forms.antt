-- The forms in which a replay prints.
use Rattle.std.specs.Prelude.{Bool, true, false}
use Rattle.metric_command_lines.specs.declared.wormweekly.request.Form.{Form}
use Rattle.metric_command_lines.specs.declared.wormweekly.request.Form.TheVariants.{Replies, OtlpLines, OtlpBytes}
use Rattle.metric_command_lines.specs.declared.wormweekly.request.Form.TheVariants.{Prometheus, OpenMetrics}
use Rattle.metric_command_lines.specs.declared.wormweekly.request.Form.TheVariants.{OpenMetricsCreated}

-- it is a page, which has the batches of one reader
abbrev pub is_page : Form → Bool
is_page Replies = false
is_page OtlpLines = false
is_page OtlpBytes = false
is_page Prometheus = true
is_page OpenMetrics = true
is_page OpenMetricsCreated = true
