-- none is told exactly where both are equal
use Rattle.std.proofs.Common.{ap, ◌∙◌}
use Rattle.metric_diff.specs.Changes.{plan_of}
use Rattle.metric_diff.specs.Equal.{is_nil}
use Rattle.metric_diff.proofs.Equals.{nothing_differs}
use Rattle.metric_diff.proofs.compared.changes.Goals as goal

pub returns-clause-nothing : goal.returns-clause-nothing
returns-clause-nothing c = ap is_nil c.in_ok-changes.ensures ∙ nothing_differs (plan_of c.args.old) (plan_of c.args.new)
