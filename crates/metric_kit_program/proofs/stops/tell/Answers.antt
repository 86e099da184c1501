use Rattle.metric_kit_program.proofs.StopLaws.{told}
use Rattle.metric_kit_program.proofs.stops.tell.Goals as goal

pub returns : goal.returns
returns g c = told c.write_line-written.result _ _ c.write_line-written.ensures.whole c.write_line-written.ensures.prefix c.write_line-written.ensures.broken
