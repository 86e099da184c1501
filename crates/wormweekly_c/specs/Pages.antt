-- What batches and resources are in a page for Prometheus.
use Rattle.std.specs.Prelude.{◌≡◌, ◌==◌, ℕ, List, Option, Some, None, Result, Ok, Err}
use Rattle.std.specs.Prelude.{if◌then◌else◌}
use Rattle.metric_contents.specs.declared.attributes.OwnedAttr.{OwnedAttr}
use Rattle.metric_exposition.specs.Pages.{page_lines}
use Rattle.metric_exposition.specs.TargetFaults.{target_check}
use Rattle.metric_exposition.specs.Targets.{target_text}
use Rattle.metric_exposition.specs.declared.dialect.Dialect.{Dialect}
use Rattle.metric_exposition.specs.declared.dialect.Dialect.TheVariants.{Text, OpenMetrics, OpenMetricsCreated}
use Rattle.metric_exposition.specs.declared.target.TargetFault.{TargetFault}
use Rattle.metric_exposition.specs.declared.target.TargetFault.TheVariants.{BadLabel, LabelCollision, Memory}
use Rattle.metric_hosted.specs.declared.planned.HostedReader.{HostedReader}
use Rattle.metric_resource.specs.declared.fault.ResourceFault.{ResourceFault}
use Rattle.wormweekly_c.specs.Resources.{number_of_fault}
use Rattle.wormweekly_c.specs.Texts.{AnswersText}

-- the format of a number
abbrev pub dialect_of : ℕ → Option Dialect
dialect_of number =
    if number == 0 then Some Text
    else (if number == 1 then Some OpenMetrics
    else (if number == 2 then Some OpenMetricsCreated else None))

-- the lines of the batches that a reader keeps, those of one family together
abbrev pub kept_lines : HostedReader → Dialect → List ℕ
kept_lines own dialect =
    page_lines dialect own.plan.facts.contents own.plan.streams own.kept

-- the number of a fault of a target
abbrev pub number_of_target : TargetFault → ℕ
number_of_target (BadLabel attribute) = 110
number_of_target (LabelCollision attribute other) = 111
number_of_target Memory = 11

-- what writing the lines of a resource is answered: the fault of its labels, else what writing them is
abbrev pub AnswersLines : Result (Unit {0}) TargetFault → List OwnedAttr → List ℕ → List ℕ → ℕ → ℕ
    → Dialect → Type 0
AnswersLines (Err fault) resource before after count code dialect = code ≡ number_of_target fault
AnswersLines (Ok passed) resource before after count code dialect =
    AnswersText (target_text dialect resource) before after count code

-- the same of what is read of a resource: why there is none, else that
abbrev pub AnswersTarget : Option (Result (List OwnedAttr) ResourceFault) → List ℕ → List ℕ → ℕ → ℕ
    → Dialect → Type 0
AnswersTarget None before after count code dialect = code ≡ 101
AnswersTarget (Some (Err fault)) before after count code dialect = code ≡ number_of_fault fault
AnswersTarget (Some (Ok resource)) before after count code dialect =
    AnswersLines (target_check resource) resource before after count code dialect
