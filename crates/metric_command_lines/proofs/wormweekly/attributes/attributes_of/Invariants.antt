-- the attributes of the words so far
use Rattle.std.proofs.Common.{◌≡◌, map, take}
use Rattle.metric_command_lines.specs.Attributes.{attribute_of}
use Rattle.metric_command_lines.proofs.wormweekly.attributes.attributes_of.Given as goal

abbrev pub invariant-loop-word : goal.invariant-loop-word
invariant-loop-word l = l.attributes.items ≡ map attribute_of (map (λ w. w.now) (take l.word-index l.words))
