-- the values of the keys so far
use Rattle.std.proofs.Common.{◌≡◌, map, take}
use Rattle.metric_contents.specs.Attributes.{given_by}
use Rattle.metric_meaning.specs.Made.{attributes_of}
use Rattle.metric_meaning.proofs.expected.attributes_of.Given as goal

abbrev pub invariant-loop-key : goal.invariant-loop-key
invariant-loop-key l = map given_by l.attrs.items ≡ attributes_of (take l.key-index l.instrument.keys)
