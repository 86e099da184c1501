use Rattle.std.proofs.Common.{rules}
use Rattle.metric_bounds.proofs.products.factor_of.Goals as goal

pub returns-then-key-clause-exact : goal.returns-then-key-clause-exact
returns-then-key-clause-exact c = search rules
