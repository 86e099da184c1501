-- the texts of the values so far
use Rattle.std.proofs.Common.{◌≡◌, map, take}
use Rattle.metric_exposure.specs.KeyTexts.{text_value}
use Rattle.metric_exposure.proofs.keys.texts_of.Given as goal

abbrev pub invariant-loop-value : goal.invariant-loop-value
invariant-loop-value l = l.texts ≡ map text_value (take l.value-index l.values)
