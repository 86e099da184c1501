-- What a collection of its slot makes of an instrument.
use Rattle.std.proofs.Common.{◌≡◌, ℕ, Result, Ok, Err, OnOk, sym, ap, subst, ◌∙◌}
use Rattle.std.specs.Prelude.{IfOk, OnErr}
use Rattle.metric_contents.specs.declared.refusal.Refusal.{Refusal}
use Rattle.metric_core.specs.CellAnswers.{KeepsJournal, ReportsBatch}
use Rattle.metric_core.specs.Cells.{CellValue}
use Rattle.metric_facts.specs.declared.facts.Facts.{Facts}
use Rattle.metric_history.specs.declared.batch.Batch.{Batch}
use Rattle.metric_marked.specs.Marks.{MarkedValue, StandsMarked}
use Rattle.metric_plan.specs.Plans.{PlanValue}
use Rattle.metric_seat.specs.Collections.{AnswersCollector, collectable}
use Rattle.metric_seat.specs.Handing.{HandsReading}
use Rattle.metric_seat.specs.OneSlot.{CollectsSlot}
use Rattle.metric_seat.specs.Seats.{CollectorValue, provider_of}
use Rattle.metric_seat.specs.declared.run_id.RunId.{RunId}
use Rattle.metric_hosted.specs.Collections.{AnswersReading, allowance_of, with_collected}
use Rattle.metric_hosted.specs.Hosts.{HostedValue, number_of}

-- an instrument of a run that has this cell after a collection by a seat which may make it, or may not
pub record IsRead (allowed : Result Facts Refusal) (h : HostedValue) (seat : CollectorValue) (run : RunId) (now : ℕ) (new : CellValue MarkedValue) (r : Result Batch Refusal) : Type 0 where
  pub answer : AnswersReading allowed h seat now r
  pub batch : IfOk r (λ batch. ReportsBatch StandsMarked h.cell seat.number now batch)
  pub new_is : IfOk r (λ batch. record { run = run; cell = new } ≡ with_collected h seat.number batch.time new.book)
  pub stands : OnOk r (KeepsJournal StandsMarked h.cell new)
  pub same : OnErr r (record { run = run; cell = new } ≡ h)

of_slot : (allowed : Result Facts Refusal) (h : HostedValue) (seat : CollectorValue) (now : ℕ) (new : CellValue MarkedValue) (r : Result Batch Refusal)
    → AnswersCollector allowed seat (number_of h) now r → HandsReading (CollectsSlot StandsMarked) allowed seat (number_of h) h.cell new now r
    → IsRead allowed h seat h.run now new r
of_slot (Err first) h seat now new (Ok batch) answer handed = absurd answer
of_slot (Err first) h seat now new (Err refusal) answer handed =
    record { answer = answer; batch = tt; new_is = tt; stands = tt; same = ap (λ (c : CellValue MarkedValue). record h { cell = c }) handed }
of_slot (Ok own) h seat now new (Ok batch) answer handed = record {
  answer = answer;
  batch = handed.reports;
  new_is = ap (λ (c : CellValue MarkedValue). record h { cell = c }) handed.is;
  stands = handed.stands;
  same = tt;
}
of_slot (Ok own) h seat now new (Err refusal) answer handed =
    record { answer = handed.0; batch = tt; new_is = tt; stands = tt; same = ap (λ (c : CellValue MarkedValue). record h { cell = c }) handed.1 }

-- the same of the instrument whose parts these are
pub read : (plan : PlanValue) (h : HostedValue) (seat : CollectorValue) (run : RunId) (i now : ℕ) (old new : CellValue MarkedValue) (r : Result Batch Refusal)
    → record { run = run; cell = old } ≡ h → i ≡ number_of h
    → AnswersCollector (collectable (provider_of plan run) seat i) seat i now r
    → HandsReading (CollectsSlot StandsMarked) (collectable (provider_of plan run) seat i) seat i old new now r
    → IsRead (allowance_of plan h seat) h seat run now new r
read plan h seat run i now old new r is at answer handed =
    let own : HostedValue = record { run = run; cell = old } in
    let here : i ≡ number_of own = at ∙ sym (ap (λ (g : HostedValue). number_of g) is) in
    subst (λ (g : HostedValue). IsRead (allowance_of plan g seat) g seat run now new r) is
    (of_slot (allowance_of plan own seat) own seat now new r
    (subst (λ (n : ℕ). AnswersCollector (collectable (provider_of plan run) seat n) seat n now r) here answer)
    (subst (λ (n : ℕ). HandsReading (CollectsSlot StandsMarked) (collectable (provider_of plan run) seat n) seat n old new now r) here handed))
