-- What the batches of a plan are in a page.
use Rattle.std.specs.Prelude.{ℕ, List, Option}
use Rattle.metric_history.specs.declared.batch.Batch.{Batch}
use Rattle.metric_plan.specs.Plans.{PlanValue}
use Rattle.wormweekly_commands.specs.Paging.{plan_lines}
use Rattle.wormweekly_commands.specs.declared.paging.Lines.{Lines}

abbrev pub lines_text : Lines → PlanValue → List (Option Batch) → List ℕ
lines_text lines = plan_lines lines.dialect
