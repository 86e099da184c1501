-- the same of what is seen of the table
use Rattle.std.proofs.Common.{◌∙◌}
use Rattle.metric_catalogue.specs.Seats.{is_stranger}
use Rattle.metric_catalogue.proofs.Budgets.{name_place}
use Rattle.metric_catalogue.proofs.named.stranger.Goals as goal

pub returns-clause-exact : goal.returns-clause-exact
returns-clause-exact c = c.place_of_stranger.ensures.exact ∙ name_place (is_stranger c.args.named.now) c.args.budget.now
