-- laws of windows
use Rattle.metric_safety.proofs.WindowLaws.{journal_bounded, journal_fits, report_within}
use Rattle.metric_safety.proofs.laws.journals_are_bounded.Goals as goal

pub returns : goal.returns
returns c = record { bounded = journal_bounded; fits = journal_fits; reports = report_within }
