-- the part is a word exactly where it is one that is left
use Rattle.std.proofs.Common.{◌≡◌, length}
use Rattle.metric_family.specs.Words.{is_among, words}
use Rattle.metric_family.proofs.words.has_word.Given as goal

abbrev pub invariant-rest : goal.invariant-rest
invariant-rest l = is_among (words l.rest) l.part ≡ is_among (words l.fn.text) l.part

abbrev pub decreases-rest : goal.decreases-rest
decreases-rest l = length l.rest
