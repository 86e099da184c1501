-- a key stands twice among all where one stands twice among those that are left
use Rattle.std.proofs.Common.{◌≡◌, length, map}
use Rattle.metric_contents.specs.Encoding.{has_repeated_key}
use Rattle.metric_contents.proofs.repeats.has_repeated_key.Given as goal

abbrev pub invariant-loop-left : goal.invariant-loop-left
invariant-loop-left g l = has_repeated_key (map g.A.Attribute.given l.left) ≡ has_repeated_key (map g.A.Attribute.given l.attrs)

abbrev pub decreases-loop-left : goal.decreases-loop-left
decreases-loop-left g l = length l.left
