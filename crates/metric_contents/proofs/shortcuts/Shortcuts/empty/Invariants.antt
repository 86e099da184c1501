-- no slot is taken
use Rattle.std.proofs.Common.{All, List}
use Rattle.metric_names.specs.declared.value.AttrValue.{AttrValue}
use Rattle.metric_contents.specs.Shortcuts.{IsRight}
use Rattle.metric_contents.proofs.shortcuts.Shortcuts.empty.Given as goal

abbrev pub invariant-loop : goal.invariant-loop
invariant-loop l = (values : List AttrValue) → All (IsRight values) l.slots.items
