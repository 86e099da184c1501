-- each slot is right
use Rattle.std.proofs.Common.{All}
use Rattle.metric_contents.specs.Shortcuts.{IsRight}
use Rattle.metric_contents.proofs.shortcuts.Shortcuts.put_all.Given as goal

abbrev pub invariant-loop-text : goal.invariant-loop-text
invariant-loop-text l = All (IsRight l.values) l.self.slots.items
