use Rattle.std.proofs.Common.{◌≡◌}
use Rattle.metric_glob.specs.Reach.{reached_rows}
use Rattle.metric_glob.proofs.why.rows_of.Given as goal

abbrev pub invariant-loop-at : goal.invariant-loop-at
invariant-loop-at l = l.rows ≡ reached_rows l.pattern l.text l.at
