-- one more empty account, and all of them
use Rattle.std.proofs.Common.{arith, ◌≡◌, ℕ, List, [], ◌∷◌, Some, length, ap, subst, sym}
use Rattle.std.specs.Prelude.{slice_get}
use Rattle.std.proofs.lemmas.List.{length-append}
use Rattle.metric_kit_commands.specs.Accounts.{IsEmptyAccount}
use Rattle.metric_kit_commands.specs.declared.accounts.Account.{Account}
use Rattle.metric_kit_commands.proofs.AccountLaws.{accounts_begin, each_more}
use Rattle.metric_kit_commands.proofs.accounts.empty_accounts.Goals as goal

pub loop-turn-preserved : goal.loop-turn-preserved
loop-turn-preserved c =
    let recorders : ℕ = length c.recorders-recorders.result.now in (
      omega (arith, ap length c.in_ok-push.ensures.items, length-append c.loop-turn.accounts.items (c.in_ok-empty_account.field-0 ∷ []), c.loop-turn.invariant.0),
      subst (λ (l : List Account). (i : ℕ) (account : Account) → slice_get l i ≡ Some account → IsEmptyAccount recorders account) (sym c.in_ok-push.ensures.items)
          (each_more (IsEmptyAccount recorders) c.loop-turn.accounts.items c.in_ok-empty_account.field-0 c.loop-turn.invariant.1 c.in_ok-empty_account.ensures),
    )

pub returns : goal.returns
returns c = λ told.
    accounts_begin c.args.catalogue.now told c.loop-turn.accounts.items (length c.recorders-recorders.result.now) (ap length c.recorders-recorders.ensures.recorders)
    (omega (arith, c.loop-turn.invariant.0, c.loop-turn-test.false, c.loop-turn.auto._turn-end, ap length c.instruments-count.ensures.instruments)) c.loop-turn.invariant.1
