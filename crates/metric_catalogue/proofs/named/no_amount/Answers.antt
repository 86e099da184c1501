-- the same of what is seen of the table
use Rattle.std.proofs.Common.{◌∙◌}
use Rattle.metric_catalogue.specs.Seats.{is_no_amount}
use Rattle.metric_catalogue.proofs.Budgets.{value_place}
use Rattle.metric_catalogue.proofs.named.no_amount.Goals as goal

pub returns-clause-exact : goal.returns-clause-exact
returns-clause-exact c = c.place_of_no_amount.ensures.exact ∙ value_place is_no_amount c.args.budget.now
