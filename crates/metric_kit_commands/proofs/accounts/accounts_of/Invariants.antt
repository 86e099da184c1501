-- the accounts of the events so far
use Rattle.std.proofs.Common.{[], take}
use Rattle.metric_kit_commands.specs.Accounts.{AreAccounts}
use Rattle.metric_history.specs.Legal.{grown}
use Rattle.metric_kit_commands.proofs.accounts.accounts_of.Given as goal

abbrev pub invariant-loop-at : goal.invariant-loop-at
invariant-loop-at l = AreAccounts l.catalogue l.replies (grown [] (take l.at l.events) (take l.at l.replies)) l.accounts.items
