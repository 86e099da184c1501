-- series by series
use Rattle.metric_lanes.proofs.RisingLaws.{report_together, together_once}
use Rattle.metric_lanes.proofs.laws.lanes_report_together.Goals as goal

pub returns : goal.returns
returns c = record { reports = report_together; once = together_once }
