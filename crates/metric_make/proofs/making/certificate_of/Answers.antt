-- the claims are of the catalogue's format
use Rattle.metric_make.proofs.Formatted.{made_formatted}
use Rattle.metric_make.proofs.making.certificate_of.Goals as goal

pub made-requires : goal.made-requires
made-requires c =
    made_formatted c.args.catalogue.now c.format_of.result c.in_ok-entries.entries c.args.streams.now c.format_of.ensures.sound c.format_of.ensures.format c.in_ok-entries.ensures.entries
