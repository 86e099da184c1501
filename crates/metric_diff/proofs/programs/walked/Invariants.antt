-- programs go on with the instruments so far
use Rattle.metric_diff.proofs.ProgramLaws.{Walked}
use Rattle.metric_diff.proofs.programs.walked.Given as goal

abbrev pub invariant-loop-number : goal.invariant-loop-number
invariant-loop-number l = Walked l.old l.new l.is_moved l.number
