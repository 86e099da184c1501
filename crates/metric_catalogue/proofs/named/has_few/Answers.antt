-- a table has as many names as entries
use Rattle.std.proofs.Common.{ℕ, nat_le, ap, sym, ◌∙◌}
use Rattle.metric_catalogue.proofs.Budgets.{names_count}
use Rattle.metric_catalogue.proofs.named.has_few.Goals as goal

pub returns-clause-exact : goal.returns-clause-exact
returns-clause-exact c =
    ap (λ (n : ℕ). nat_le n 513) (c.len.ensures.len ∙ sym (names_count c.args.budget.now.entries))
