-- the changes of the parts so far
use Rattle.std.proofs.Common.{◌≡◌, ◌++◌, take}
use Rattle.metric_diff.specs.Instruments.{declared_parts}
use Rattle.metric_diff.proofs.declared.add_these_parts.Given as goal

abbrev pub invariant-loop-part : goal.invariant-loop-part
invariant-loop-part l = l.changes ≡ l.fn.changes ++ declared_parts l.of.old l.of.new l.one l.other (take l.part-index l.parts)
