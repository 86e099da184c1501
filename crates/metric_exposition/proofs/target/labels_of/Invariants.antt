-- the labels of the attributes so far
use Rattle.std.proofs.Common.{◌≡◌, take}
use Rattle.metric_exposition.specs.TargetFaults.{labels_of}
use Rattle.metric_exposition.proofs.target.labels_of.Given as goal

abbrev pub invariant-loop-attribute : goal.invariant-loop-attribute
invariant-loop-attribute l = l.labels.items ≡ labels_of (take l.attribute-index l.attributes)
