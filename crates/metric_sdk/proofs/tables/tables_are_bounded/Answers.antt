-- each table by the recordings for which the cell stands
use Rattle.metric_sdk.proofs.TableLaws.{marked_bounded}
use Rattle.metric_sdk.proofs.tables.tables_are_bounded.Goals as goal

pub returns : goal.returns
returns c = marked_bounded c.args.slot.now c.journals_are_bounded.ensures.bounded c.cell.ensures.certified c.cell.ensures.kept
