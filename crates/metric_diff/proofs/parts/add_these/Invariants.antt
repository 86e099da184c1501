-- the changes of the parts so far
use Rattle.std.proofs.Common.{◌≡◌, ◌++◌, take}
use Rattle.metric_diff.specs.Parts.{part_changes}
use Rattle.metric_diff.proofs.parts.add_these.Given as goal

abbrev pub invariant-loop-part : goal.invariant-loop-part
invariant-loop-part l = l.changes ≡ l.fn.changes ++ part_changes l.of.old l.of.new l.old.catalogue.now l.new.catalogue.now l.old.stream.now l.new.stream.now (take l.part-index l.parts)
