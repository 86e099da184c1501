-- the same of what is seen of the table
use Rattle.std.proofs.Common.{◌∙◌, ℕ, List}
use Rattle.metric_catalogue.specs.Seats.{named_twice}
use Rattle.metric_catalogue.proofs.Budgets.{name_place}
use Rattle.metric_catalogue.proofs.named.ambiguous.Goals as goal

pub returns-clause-exact : goal.returns-clause-exact
returns-clause-exact c = c.place_of_ambiguous.ensures.exact ∙ name_place (λ (name : List ℕ). named_twice name c.args.named.now) c.args.budget.now
