-- What a batch of a plan is in OTLP.
use Rattle.std.specs.Prelude.{ℕ, List}
use Rattle.metric_history.specs.declared.batch.Batch.{Batch}
use Rattle.metric_plan.specs.Plans.{PlanValue}
use Rattle.wormweekly_commands.specs.Inputs.{otlp_line, otlp_request}
use Rattle.wormweekly_commands.specs.declared.replaying.Otlp.{Otlp}
use Rattle.wormweekly_commands.specs.declared.replaying.Otlp.TheVariants.{Line, Request}

abbrev pub otlp_text : Otlp → PlanValue → Batch → List ℕ
otlp_text (Line resource) = otlp_line resource.now
otlp_text (Request resource) = otlp_request resource.now
