-- what is written so far
use Rattle.std.proofs.Common.{◌≡◌, ◌++◌, take}
use Rattle.std.specs.List.{flat_map}
use Rattle.metric_wire.specs.Wire.{word}
use Rattle.metric_wire.proofs.fields.push_words.Given as goal

abbrev pub invariant-loop-number : goal.invariant-loop-number
invariant-loop-number l = l.out.items ≡ l.fn.out.items ++ flat_map word (take l.number-index l.numbers)
