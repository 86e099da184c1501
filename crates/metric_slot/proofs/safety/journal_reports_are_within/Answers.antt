-- by what a reader may be told
use Rattle.metric_slot.proofs.SlotLaws.{journal_within}
use Rattle.metric_slot.proofs.safety.journal_reports_are_within.Goals as goal

pub returns : goal.returns
returns c own start reader seen told safe goes of = journal_within own start reader seen told c.journals_are_bounded.ensures.reports safe goes of
