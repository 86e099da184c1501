-- The reader that is asked for is that of the call.
use Rattle.std.proofs.Common.{◌∙◌, ℕ, Result, ap, subst, sym}
use Rattle.wormweekly_commands.specs.Paging.{IsReaderFound, exposed}
use Rattle.wormweekly_commands.specs.declared.fault.PageFault.{PageFault}
use Rattle.wormweekly_commands.proofs.paging.reader_in.Goals as goal

pub returns-in-Ok : goal.returns-in-Ok
returns-in-Ok c =
    subst (λ (asked : Result ℕ PageFault). IsReaderFound (exposed c.args.catalogue.now c.args.streams.now asked) c.exposed.result)
    (sym c.in-Ok.is ∙ c.reader_asked.ensures) c.exposed.ensures

pub returns-in-Err : goal.returns-in-Err
returns-in-Err c = ap (exposed c.args.catalogue.now c.args.streams.now) (sym c.reader_asked.ensures ∙ c.in-Err.is)
