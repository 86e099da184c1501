-- a cell tells of its own recordings
use Rattle.metric_lanes.proofs.LaneLaws.{read_gathers}
use Rattle.metric_lanes.proofs.gathered.Gathered.of_lane.Goals as goal

pub returns-clause-gathers : goal.returns-clause-gathers
returns-clause-gathers g c =
    read_gathers g.B.Book.stands c.args.slot.now c.cell-cell.result.now c.args.asked c.args.batch c.mark_of.result c.time_of.result c.cell-cell.ensures.kept
    c.requires.start c.requires.reports c.cell-cell.ensures.cell c.mark_of.ensures.mark c.time_of.ensures
