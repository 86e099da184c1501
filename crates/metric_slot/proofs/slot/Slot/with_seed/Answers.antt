-- the plan's facts are certified
use Rattle.metric_slot.proofs.slot.Slot.with_seed.Goals as goal

pub invariant_of-result : goal.invariant_of-result
invariant_of-result g c = c.certified_facts_are_safe.ensures c.args.instrument c.in_ok-cell.cell.facts c.in_ok-cell.ensures.facts
