-- there is a total of each instrument
use Rattle.std.proofs.Common.{◌∙◌, ap, length}
use Rattle.metric_kit_program.proofs.ThreadLaws.{one_total_each}
use Rattle.metric_kit_program.proofs.seats.finished.Goals as goal

pub returns-in-Ok-clause-one_each : goal.returns-in-Ok-clause-one_each
returns-in-Ok-clause-one_each g c = ap length c.in-Ok.ensures.totals ∙ one_total_each c.args.recorders.items 0 _
