-- the text that was written is read back
use Rattle.std.proofs.Common.{ap, ◌∙◌, arith}
use Rattle.toml.specs.Data.{string}
use Rattle.metric_cert.specs.Reading.{decimal_of}
use Rattle.metric_cert.proofs.Written.{decimal_of-decimal}
use Rattle.metric_cert.proofs.numbers.DecimalEntryKind.write.Goals as goal

pub returns-clause-reads : goal.returns-clause-reads
returns-clause-reads c =
    ap decimal_of (c.worded.ensures ∙ ap string c.in_ok-text.ensures.ok) ∙ decimal_of-decimal c.args.entry.now (omega arith)
