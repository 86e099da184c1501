-- What recording and collecting by threads makes of the bytes of its input.
use Rattle.std.specs.Prelude.{◌≡◌, ◌≢◌, ◌++◌, ℕ, ℤ, List, codes, length}
use Rattle.std.specs.Fmt.{signed_decimal}
use Rattle.metric_text.specs.Lists.{numbered}
use Rattle.metric_plan.specs.Plans.{PlanValue}
use Rattle.metric_seat.specs.declared.fault.FinishFault.{FinishFault}
use Rattle.metric_seat.specs.declared.fault.FinishFault.TheVariants as finish
use Rattle.metric_seat.specs.declared.total.Total.{Total}
use Rattle.metric_kit_commands.specs.declared.fault.KitFault.{KitFault}
use Rattle.metric_kit_commands.specs.declared.fault.KitFault.TheVariants.{Finish, Memory}
use Rattle.metric_kit_commands.specs.Checking.{IsCertifiedInput, IsFirstCheckFault}
use Rattle.metric_kit_commands.specs.Written.{parts_text}

-- the end of the line of a total
unfoldable pub sum_text : ℤ → List ℕ
sum_text sum = codes " sum " ++ (signed_decimal sum ++ codes "\n")

-- the line of an instrument's total
abbrev pub total_text : ℕ → Total → List ℕ
total_text instrument total =
    numbered (codes "instrument ") instrument
    ++ (numbered (codes " count ") total.count ++ sum_text total.sum)

-- those of all instruments, numbered from 0
abbrev pub totals_text : List Total → List ℕ
totals_text totals = parts_text total_text totals

-- The text that threads over the input come to: a line for a total of each
-- instrument of the certified plan.
pub record IsCounted (input text : List ℕ) : Type 0 where
  pub plan : PlanValue
  pub totals : List Total
  pub certified : IsCertifiedInput input plan
  pub one_each : length totals ≡ length plan.facts.instruments
  pub written : text ≡ totals_text totals

-- The input is certified, and what its recorders were told could not be settled.
pub record IsUnsettled (input : List ℕ) (fault : FinishFault) : Type 0 where
  pub plan : PlanValue
  pub certified : IsCertifiedInput input plan
  pub own : fault ≢ finish.Memory

-- what may come of the threads of a certified input
abbrev pub IsAfterThreads : KitFault → Type 0
IsAfterThreads (Finish fault) = fault ≢ finish.Memory
IsAfterThreads Memory = Unit {0}
IsAfterThreads _ = ⊥

-- The fault is the first that the input has, or comes after the threads.
abbrev pub IsFirstThreadsFault : List ℕ → KitFault → Type 0
IsFirstThreadsFault input (Finish fault) = IsUnsettled input fault
IsFirstThreadsFault input fault = IsFirstCheckFault input fault
