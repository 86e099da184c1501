-- Batches that go out in the encodings of OTLP.
use Rattle.std.specs.Prelude.{◌≡◌, ◌==◌, ℕ, List, [], Option, Some, None, Result, Ok, Err}
use Rattle.std.specs.Prelude.{if◌then◌else◌}
use Rattle.std.specs.Option.{MatchOption}
use Rattle.metric_contents.specs.declared.attributes.OwnedAttr.{OwnedAttr}
use Rattle.metric_hosted.specs.declared.planned.HostedReader.{HostedReader}
use Rattle.metric_otlp.specs.Lines.{line}
use Rattle.metric_otlp.specs.Requests.{request}
use Rattle.metric_resource.specs.declared.fault.ResourceFault.{ResourceFault}
use Rattle.wormweekly_c.specs.Resources.{number_of_fault}
use Rattle.wormweekly_c.specs.Texts.{AnswersText}

-- the request of the batches that a reader keeps, empty before one
abbrev pub request_of : HostedReader → List OwnedAttr → List ℕ
request_of own resource = request resource own.plan.facts.contents own.plan.streams own.kept

-- the same as a line of JSON
abbrev pub line_of : HostedReader → List OwnedAttr → List ℕ
line_of own resource = line resource own.plan.facts.contents own.plan.streams own.kept

-- # batches that leave (OTLP; Prometheus) [encoded, AnswersOtlp]
-- The batches that a reader keeps as a request or a line of OTLP, and as lines of a page; none before
-- one.
abbrev pub encoded : ℕ → HostedReader → List OwnedAttr → Option (List ℕ)
encoded json own resource =
    if json == 0 then Some (request_of own resource)
    else (if json == 1 then Some (line_of own resource) else None)

-- what handing on a batch is answered: why there is no resource, else that there is no such
-- encoding, else what writing it is answered
abbrev pub AnswersOtlp : HostedReader → ℕ → Option (Result (List OwnedAttr) ResourceFault)
    → List ℕ → List ℕ → ℕ → ℕ → Type 0
AnswersOtlp own json None before after count code = code ≡ 101
AnswersOtlp own json (Some (Err fault)) before after count code = code ≡ number_of_fault fault
AnswersOtlp own json (Some (Ok resource)) before after count code =
    MatchOption (encoded json own resource) (code ≡ 106) (λ text.
    AnswersText text before after count code)
