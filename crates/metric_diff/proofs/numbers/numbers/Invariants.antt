-- the numbers so far
use Rattle.std.proofs.Common.{◌≡◌, map, take}
use Rattle.std.specs.List.{enumerate_from}
use Rattle.metric_diff.specs.Known.{number_by}
use Rattle.metric_diff.proofs.numbers.numbers.Given as goal

abbrev pub invariant-loop-number : goal.invariant-loop-number
invariant-loop-number g l = l.numbers ≡ map (number_by g.T.Numbered.is l.renaming l.olds l.news) (enumerate_from 0 (take l.number l.news))
