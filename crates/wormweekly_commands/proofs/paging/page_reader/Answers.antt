-- The readers and the streams are those of the config.
use Rattle.std.proofs.Common.{◌∙◌, List, ap, arith, length, subst}
use Rattle.metric_views.specs.declared.config.Reader.{Reader}
use Rattle.metric_views.specs.declared.stream.Stream.{Stream}
use Rattle.wormweekly_commands.specs.PageReaders.{reader_asked}
use Rattle.wormweekly_commands.specs.Paging.{IsReaderFound, exposed}
use Rattle.wormweekly_commands.proofs.paging.page_reader.Goals as goal

pub reader_in-requires : goal.reader_in-requires
reader_in-requires c = omega (arith, ap length c.readers.ensures.readers, c.readers.ensures.few)

pub returns : goal.returns
returns c =
    let contents = c.args.catalogue.now in
    let name = c.args.name.now in
    subst (λ (all : List Stream). IsReaderFound (exposed contents all (reader_asked name c.args.config.now.readers all)) c.reader_in.result)
    (c.as_slice.ensures.items ∙ c.in_ok-streams.ensures.list)
    (subst (λ (readers : List Reader). IsReaderFound (exposed contents c.as_slice.result.now (reader_asked name readers c.as_slice.result.now)) c.reader_in.result)
    c.readers.ensures.readers c.reader_in.ensures)
