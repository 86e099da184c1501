-- What collections through handles are answered.
use Rattle.std.specs.Prelude.{ℕ, List}
use Rattle.std.specs.List.{flat_map}
use Rattle.metric_lines.specs.Batches.{batch_text}
use Rattle.metric_hosted.specs.declared.planned.HostedReader.{HostedReader}

-- the text of the batches that a reader keeps, none before one
abbrev pub text_of : HostedReader → List ℕ
text_of own =
    flat_map (batch_text own.plan.facts.contents own.plan.config own.plan.streams) own.kept
