-- the account of the event's instrument has more, or there is none
use Rattle.std.proofs.Common.{arith, subst, sym}
use Rattle.metric_history.specs.Events.{instrument_of}
use Rattle.metric_kit_commands.specs.Accounts.{AddsToAccount}
use Rattle.metric_kit_commands.specs.declared.accounts.Account.{Account}
use Rattle.metric_kit_commands.proofs.AccountLaws.{adds_at, adds_elsewhere}
use Rattle.metric_kit_commands.proofs.accounts.add_to_accounts.Goals as goal

pub returns-in_ok-add_to_account : goal.returns-in_ok-add_to_account
returns-in_ok-add_to_account c =
    adds_at c.args.catalogue.now c.args.place c.args.event.now c.args.reply.now c.args.accounts.now c.instrument-at.result c.index-accounts-at.result c.add_to_account.new.account
    c.instrument-at.ensures c.if-at-accounts.true c.index-accounts-at.is
    (subst (λ (a : Account). AddsToAccount c.args.catalogue.now (instrument_of c.args.event.now) c.args.place c.args.event.now c.args.reply.now a c.add_to_account.new.account)
    (sym c.index-accounts-at.is) c.in_ok-add_to_account.ensures)

pub returns-else-at-accounts : goal.returns-else-at-accounts
returns-else-at-accounts c =
    adds_elsewhere c.args.catalogue.now c.args.place c.args.event.now c.args.reply.now c.args.accounts.now (omega (arith, c.if-at-accounts.false, c.instrument-at.ensures))
