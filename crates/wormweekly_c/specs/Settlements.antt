-- What settling through handles is answered.
use Rattle.std.specs.Prelude.{◌≡◌, ◌+◌, ◌*◌, ◌^◌, ◌⊎◌, ℕ, ℤ, pos, neg_ℤ, ◌==◌, List, [], ◌∷◌}
use Rattle.std.specs.Prelude.{Option, Some, None, Ok, Err, if◌then◌else◌, length, map}
use Rattle.std.specs.Prelude.{slice_get, take}
use Rattle.metric_hosted.specs.declared.planned.HostedRecorder.{HostedRecorder}
use Rattle.metric_hosted.specs.declared.settling.SeatTold.{SeatTold}
use Rattle.metric_hosted.specs.Hosts.{HostedValue}
use Rattle.metric_hosted.specs.Settlements.{IsSeatOf, Settles, TellsOf, seated}
use Rattle.metric_seat.specs.declared.fault.FinishFault.{FinishFault}
use Rattle.metric_seat.specs.declared.fault.FinishFault.TheVariants.{RecorderMissing, Stranger}
use Rattle.metric_seat.specs.declared.fault.FinishFault.TheVariants.{AuditMismatch, Memory}
use Rattle.metric_seat.specs.declared.total.Total.{Total}
use Rattle.wormweekly_c.specs.Codes.{recorder_of}
use Rattle.wormweekly_c.specs.Opening.{held_in}
use Rattle.wormweekly_c.specs.declared.handles.Handle.{Handle}
use Rattle.wormweekly_c.specs.declared.settlements.TotalOut.{TotalOut}

-- the recorders that handles hold, none where one is null, or holds something else
abbrev pub recorders_in : List Handle → List (Option HostedRecorder)
recorders_in handles = map recorder_of (held_in handles)

-- the number of a fault
abbrev pub number_of_fault : FinishFault → ℕ
number_of_fault RecorderMissing = 104
number_of_fault Stranger = 12
number_of_fault AuditMismatch = 105
number_of_fault Memory = 11

-- each handle holds the seat of a recorder of the instrument, and this is what it was told
abbrev pub AllTold : HostedValue → List (Option HostedRecorder) → List SeatTold → Type 0
AllTold h [] [] = Unit {0}
AllTold h [] (told ∷ others) = ⊥
AllTold h (None ∷ seats) told = ⊥
AllTold h (Some own ∷ seats) [] = ⊥
AllTold h (Some own ∷ seats) (told ∷ others) =
    TellsOf own.plan h own.seat (Ok told) × AllTold h seats others

-- a handle tells nothing of the instrument for this reason: it holds no
-- recorder, or that one's seat is a stranger to it
abbrev pub TellsNot : HostedValue → Option HostedRecorder → ℕ → Type 0
TellsNot h None code = code ≡ 100
TellsNot h (Some own) code = (code ≡ 12) × (IsSeatOf own.plan h own.seat → ⊥)

-- The first handle that tells nothing of the instrument does so for this reason.
pub record IsFirstUntold (h : HostedValue) (seats : List (Option HostedRecorder)) (code : ℕ)
    : Type 0 where
  pub at : ℕ
  pub seat : Option HostedRecorder
  pub is : slice_get seats at ≡ Some seat
  pub why : TellsNot h seat code
  pub told : List SeatTold
  pub before : AllTold h (take at seats) told

-- the sum that was written
abbrev pub sum_from : TotalOut → ℤ
sum_from out =
    if out.negative == 0 then pos (out.high * 2 ^ 64 + out.low)
    else neg_ℤ (pos (out.high * 2 ^ 64 + out.low))

-- The total of what the recorders were told is written.
pub record IsSettled (h : HostedValue) (told : List SeatTold) (out : TotalOut) : Type 0 where
  pub total : Total
  pub settled : Settles h.cell told (seated (length h.cell.facts.budgets) told) (Ok total)
  pub count : out.count ≡ total.count
  pub sum : sum_from out ≡ total.sum

-- It is not settled, for the fault of this number.
pub record IsUnsettled (h : HostedValue) (told : List SeatTold) (code : ℕ) : Type 0 where
  pub fault : FinishFault
  pub first : Settles h.cell told (seated (length h.cell.facts.budgets) told) (Err fault)
  pub is : code ≡ number_of_fault fault

-- what settling with what the recorders were told is answered
abbrev pub AnswersTold : HostedValue → List SeatTold → TotalOut → ℕ → Type 0
AnswersTold h told out code = ((code ≡ 0) × IsSettled h told out) ⊎ IsUnsettled h told code

-- Each handle has told, and this is what settling with it is answered.
pub record AnswersAllTold (h : HostedValue) (seats : List (Option HostedRecorder)) (out : TotalOut)
    (code : ℕ) : Type 0 where
  pub told : List SeatTold
  pub all : AllTold h seats told
  pub answer : AnswersTold h told out code

-- # settled through handles (profile) [AnswersSettle, AllTold, IsSettled, IsFirstUntold]
-- Each handle holds a seat of the instrument's run, and the total of what they were told is
-- written, or the number of their fault is answered; else that of the first handle that tells
-- nothing.
abbrev pub AnswersSettle : HostedValue → List (Option HostedRecorder) → TotalOut → ℕ → Type 0
AnswersSettle h seats out code =
    AnswersAllTold h seats out code ⊎ (IsFirstUntold h seats code ⊎ (code ≡ 11))
