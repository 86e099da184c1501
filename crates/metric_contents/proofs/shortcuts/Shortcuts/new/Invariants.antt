-- each slot is right
use Rattle.std.proofs.Common.{All}
use Rattle.metric_contents.specs.Shortcuts.{IsRight}
use Rattle.metric_contents.proofs.shortcuts.Shortcuts.new.Given as goal

abbrev pub invariant-loop-meeting : goal.invariant-loop-meeting
invariant-loop-meeting l = record {
  can_next : (goal.iterator-loop-meeting).can_next l.meeting-iterator;
  is_finite : (goal.iterator-loop-meeting).is_finite l.meeting-iterator;
  right : All (IsRight l.values) l.made.slots.items;
}
