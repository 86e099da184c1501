-- that of the lane under its lock
use Rattle.std.proofs.Common.{ap, ◌∙◌}
use Rattle.metric_core.specs.Cells.{CellValue, latest}
use Rattle.metric_provider.proofs.timed.time_of_lane.Goals as goal

pub returns : goal.returns
returns g c = record {
  cell = c.deref.result.now;
  kept = c.cell.ensures.kept;
  is = c.latest.ensures ∙ ap (λ (cell : CellValue g.row.B.Denot). latest cell) c.cell.ensures.cell;
}
