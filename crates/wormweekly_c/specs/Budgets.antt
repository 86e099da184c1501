-- What recorders are told of their budgets.
use Rattle.std.specs.Prelude.{◌≡◌, ℕ, Option, Some, None, Result, Ok, Err}
use Rattle.metric_contents.specs.Refusals.{number_of}
use Rattle.metric_contents.specs.declared.refusal.Refusal.{Refusal}
use Rattle.metric_hosted.specs.Budgets.{AnswersAsking, TellsBudget}
use Rattle.metric_hosted.specs.Hosts.{HostedValue}
use Rattle.metric_hosted.specs.declared.budget.Budget.{Budget}
use Rattle.metric_hosted.specs.declared.planned.HostedRecorder.{HostedRecorder}
use Rattle.wormweekly_c.specs.Codes.{IsCodeOf}
use Rattle.wormweekly_c.specs.Granting.{IsGranted}

-- the code of a budget that was written, or of a refusal
abbrev pub IsBudgetCode : Result Budget Refusal → Budget → ℕ → Type 0
IsBudgetCode (Ok budget) out code = (code ≡ 0) × (out ≡ budget)
IsBudgetCode (Err refusal) out code = code ≡ number_of refusal

-- A recorder is answered for its budget on an instrument.
pub record AnswersBudget (h : HostedValue) (own : HostedRecorder) (out : Budget) (code : ℕ)
    : Type 0 where
  pub result : Result Budget Refusal
  pub is : IsBudgetCode result out code
  pub answer : TellsBudget own.plan h own.seat result

-- a recorder that asks for recordings is answered
abbrev pub AnswersAsk : HostedValue → HostedRecorder → ℕ → ℕ → Type 0
AnswersAsk h own amount code = IsCodeOf (AnswersAsking own.plan h own.seat amount) code

-- a recorder was granted what it asked for
abbrev pub IsGrantedTo : Option HostedValue → Option HostedValue → Option HostedRecorder → ℕ
    → Type 0
IsGrantedTo old new None amount = ⊥
IsGrantedTo old new (Some own) amount = IsGranted old new own.seat.number amount
