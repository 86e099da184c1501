-- a list within the limit fits, and past it the budgets alone do
use Rattle.std.proofs.Common.{◌∙◌, ap, sym}
use Rattle.metric_make.specs.Making.{entry_by_list}
use Rattle.metric_make.proofs.Entries.{budget_reports, list_fits}
use Rattle.metric_make.proofs.streams.entry_past.Goals as goal

pub returns-in-Some-clause-found : goal.returns-in-Some-clause-found
returns-in-Some-clause-found c =
    let stream = c.args.stream.now in
    list_fits c.args.catalogue.now stream c.in-Some.entry (ap (entry_by_list stream) (sym c.in_ok-listed.ensures) ∙ sym c.entry_by_list.ensures ∙ c.in-Some.is)

pub returns-in-None-clause-found : goal.returns-in-None-clause-found
returns-in-None-clause-found c =
    let stream = c.args.stream.now in
    budget_reports c.args.catalogue.now c.args.number stream c.args.total c.entry_by_budget.result c.requires.past
    (ap (entry_by_list stream) (sym c.in_ok-listed.ensures) ∙ sym c.entry_by_list.ensures ∙ c.in-None.is) c.requires.total c.entry_by_budget.ensures
