-- the slips from the place on are to be the entries that are left
use Rattle.metric_provider.proofs.EntryLaws.{IsCompared}
use Rattle.metric_provider.proofs.settling.are_slips.Given as goal

abbrev pub invariant-loop-entry : goal.invariant-loop-entry
invariant-loop-entry l = IsCompared l.slips l.entries l.recorder l.at l.entry-index
