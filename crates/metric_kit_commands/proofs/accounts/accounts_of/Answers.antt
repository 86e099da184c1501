-- one event more, and all of them
use Rattle.std.proofs.Common.{rules, arith, ◌+◌, List, [], take, length, ap, sym, subst, ◌∙◌}
use Rattle.metric_kit_commands.specs.Accounts.{AddsToAccounts, AreAccounts}
use Rattle.metric_kit_commands.specs.declared.accounts.Account.{Account}
use Rattle.metric_history.specs.Legal.{grown}
use Rattle.metric_kit_commands.proofs.AccountLaws.{accounts_end, accounts_more}
use Rattle.metric_kit_commands.proofs.TellingLaws.{list_kept}
use Rattle.metric_kit_commands.proofs.accounts.accounts_of.Goals as goal

pub loop-at-init : goal.loop-at-init
loop-at-init c = c.in_ok-accounts.ensures c.args.replies.now

pub loop-at-preserved : goal.loop-at-preserved
loop-at-preserved c =
    subst (λ (l : List Account). AreAccounts c.args.catalogue.now c.args.replies.now (grown [] (take (c.loop-at.at + 1) c.args.events.now) (take (c.loop-at.at + 1) c.args.replies.now)) l)
    (sym (list_kept c.loop-at.accounts.items c.add_to_accounts.new.accounts c.loop-at.accounts.len (omega arith) (c.in_ok-add_to_accounts.ensures.one_each ∙ ap length c.as_mut_slice.ensures.value)))
    (accounts_more c.args.catalogue.now c.loop-at.accounts.items c.add_to_accounts.new.accounts c.args.events.now c.args.replies.now c.loop-at.at c.index-events-at.result c.index-replies-at.result
    c.loop-at-test.true c.requires c.index-events-at.is c.index-replies-at.is c.loop-at.invariant
    (subst (λ (l : List Account). AddsToAccounts c.args.catalogue.now c.loop-at.at c.index-events-at.result c.index-replies-at.result l c.add_to_accounts.new.accounts) c.as_mut_slice.ensures.value
    c.in_ok-add_to_accounts.ensures))

pub returns : goal.returns
returns c = search (rules, arith, accounts_end)
