-- the fields that were put are read back
use Rattle.std.proofs.Common.{ap, ◌∙◌}
use Rattle.toml.specs.Data.{string}
use Rattle.metric_cert.proofs.Tabled.{word_written}
use Rattle.metric_cert.proofs.stream.ByWordEntryKind.write.Goals as goal

pub returns-clause-reads : goal.returns-clause-reads
returns-clause-reads c =
    word_written c.args.entry.now _ (c.in_ok-value.ensures ∙ ap string c.name.ensures)
