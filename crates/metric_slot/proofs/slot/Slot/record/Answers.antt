use Rattle.std.proofs.Common.{rules}
use Rattle.metric_slot.proofs.slot.Slot.record.Goals as goal

pub tell-requires : goal.tell-requires
tell-requires g c = search rules
