-- What the parts declare is right, and the reader is that of it.
use Rattle.wormweekly_commands.proofs.PageEnds.{of_declared}
use Rattle.wormweekly_commands.proofs.paging.reader_of.Goals as goal

pub returns : goal.returns
returns c =
    of_declared c.args.name.now c.args.parts.now c.in_ok-declared.declared.catalogue c.in_ok-declared.declared.config c.page_reader.result c.in_ok-declared.ensures.ok
    c.page_reader.ensures
