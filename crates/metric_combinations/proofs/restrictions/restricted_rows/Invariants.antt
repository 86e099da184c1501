-- The restrictions of the rows so far.
use Rattle.std.proofs.Common.{◌≡◌, take}
use Rattle.std.specs.BTreeSet.{keys}
use Rattle.metric_combinations.specs.Restrictions.{restrictions}
use Rattle.metric_combinations.proofs.restrictions.restricted_rows.Given as goal

abbrev pub invariant-loop-row : goal.invariant-loop-row
invariant-loop-row l = keys l.sets ≡ restrictions l.kept (take l.row-index l.rows)
