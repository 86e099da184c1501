-- a list is as long as the sets are many, and the total of the budgets is the instrument's
use Rattle.std.proofs.Common.{ap, sym, ◌∙◌}
use Rattle.metric_cert.specs.declared.stream.By.TheVariants as by
use Rattle.metric_check.proofs.Bounded.{budget_has, listed_has}
use Rattle.metric_check.proofs.limits.has_bound.Goals as goal

pub returns-in_ok-is_listed-in-List : goal.returns-in_ok-is_listed-in-List
returns-in_ok-is_listed-in-List c =
    listed_has c.args.catalogue.now c.args.stream.now c.args.entry.now.by c.as_slice-list.result.now c.args.entry.now.sets c.has_length.result c.in_ok-is_listed-in-List.is_listed
    (c.in-List.is ∙ ap by.List (sym c.as_slice-list.ensures)) c.in_ok-is_listed-in-List.ensures c.has_length.ensures

pub returns-in-Budget : goal.returns-in-Budget
returns-in-Budget c =
    budget_has c.args.catalogue.now c.args.stream.now c.args.entry.now.by c.args.entry.now.sets c.has_total.result c.in-Budget.is c.has_total.ensures
