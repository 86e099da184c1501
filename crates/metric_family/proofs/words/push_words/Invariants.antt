-- what is written, and what is left to be written
use Rattle.std.proofs.Common.{◌≡◌, length}
use Rattle.metric_family.specs.Words.{with_parts, without, words}
use Rattle.metric_family.proofs.words.push_words.Given as goal

abbrev pub invariant-rest : goal.invariant-rest
invariant-rest l = with_parts l.out.items (without l.other_than (words l.rest)) ≡ with_parts l.fn.out.items (without l.other_than (words l.fn.text))

abbrev pub decreases-rest : goal.decreases-rest
decreases-rest l = length l.rest
