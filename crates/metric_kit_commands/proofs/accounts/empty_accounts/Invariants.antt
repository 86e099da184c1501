-- each account so far is empty
use Rattle.std.proofs.Common.{◌≡◌, ℕ, Some, length}
use Rattle.std.specs.Prelude.{slice_get}
use Rattle.metric_kit_commands.specs.Accounts.{IsEmptyAccount}
use Rattle.metric_kit_commands.specs.declared.accounts.Account.{Account}
use Rattle.metric_kit_commands.proofs.accounts.empty_accounts.Given as goal

abbrev pub invariant-loop-turn : goal.invariant-loop-turn
invariant-loop-turn l =
    (length l.accounts.items ≡ l._turn)
    × ((i : ℕ) (account : Account) → slice_get l.accounts.items i ≡ Some account → IsEmptyAccount l.recorders account)
