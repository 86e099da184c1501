-- the table has a place for each full set
use Rattle.tests_runs.specs.Taking.{TakesFullSets}
use Rattle.tests_runs.proofs.dense.write_all_added.Given as goal

abbrev pub invariant-loop-first : goal.invariant-loop-first
invariant-loop-first g l = TakesFullSets l.table l.keys
