use Rattle.std.proofs.Common.{◌≡◌, drop}
use Rattle.metric_glob.specs.Reasons.{is_spelled}
use Rattle.metric_glob.proofs.confirming.is_spelled.Given as goal

abbrev pub invariant-loop-character : goal.invariant-loop-character
invariant-loop-character l =
    is_spelled (drop l.character-index l.pattern) l.left.0.now l.left.1.now ≡ is_spelled l.pattern l.fn.takes l.fn.text
