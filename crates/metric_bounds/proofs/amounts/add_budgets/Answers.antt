-- one budget more
use Rattle.std.proofs.Common.{◌<◌, length, get_or, ap, arith}
use Rattle.std.proofs.Math.ListN.{length-set}
use Rattle.std.proofs.lemmas.List.Elements.{All-get_or}
use Rattle.metric_contents.specs.Budgets.{amount_in}
use Rattle.metric_catalogue.specs.Sound.{IsSoundBudget}
use Rattle.metric_bounds.proofs.Budgets.{absent, added_more}
use Rattle.metric_bounds.proofs.amounts.add_budgets.Goals as goal

pub overflow_add-totals : goal.overflow_add-totals
overflow_add-totals c =
    let budgets = c.args.budgets.now in
    let j = c.loop-budget.budget-index in
    let within : j < length budgets = c.loop-budget-test.true in
    let own = All-get_or (IsSoundBudget (length c.args.totals.now)) budgets j (record { instrument = 0; amount = 0 }) within c.requires.known in
    let none = absent budgets j (record { instrument = 0; amount = 0 }) within c.requires.apart in
    let added = c.loop-budget.invariant.added (get_or budgets j (record { instrument = 0; amount = 0 })).instrument own.known in
    let zero = ap amount_in none in
    let room = c.requires.room (get_or budgets j (record { instrument = 0; amount = 0 })).instrument own.known in
    omega (arith, own.limited)

pub loop-budget-preserved : goal.loop-budget-preserved
loop-budget-preserved c =
    let budgets = c.args.budgets.now in
    let j = c.loop-budget.budget-index in
    let within : j < length budgets = c.loop-budget-test.true in
    let own = All-get_or (IsSoundBudget (length c.args.totals.now)) budgets j (record { instrument = 0; amount = 0 }) within c.requires.known in
    let known : (get_or budgets j (record { instrument = 0; amount = 0 })).instrument < length c.loop-budget.totals = omega (arith, own.known) in
    record { long = simp length-set c.loop-budget.invariant.long; added = rw c.from.ensures (added_more c.args.totals.now c.loop-budget.totals budgets j (record { instrument = 0; amount = 0 }) c.loop-budget.invariant.long known within c.requires.apart c.loop-budget.invariant.added) }
