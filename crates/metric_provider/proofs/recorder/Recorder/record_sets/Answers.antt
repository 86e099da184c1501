-- what the seat is answered of the plan and the run, of the provider
use Rattle.std.proofs.Common.{◌≡◌, OnOk, subst}
use Rattle.metric_seat.specs.KeyRecordings.{AreAccepted}
use Rattle.metric_seat.specs.Recordings.{SeatSpares}
use Rattle.metric_seat.specs.Seats.{ProviderValue, RecorderValue, provider_of}
use Rattle.metric_provider.proofs.recorder.Recorder.record_sets.Goals as goal

pub returns-clause-accepted : goal.returns-clause-accepted
returns-clause-accepted g c =
    let spares = SeatSpares g.B.Book.KEEPS_ENTRIES g.B.Book.spares_memory in
    let same : provider_of c.plan-plan.result.now c.run-run.result ≡ c.args.provider.now = λ i. record { plan = c.plan-plan.ensures i; run = c.run-run.ensures i } in
    subst (λ (p : ProviderValue). OnOk c.record_sets.result (AreAccepted spares p c.args.self.now c.args.instrument c.args.all.now)) same
    (subst (λ (seat : RecorderValue). OnOk c.record_sets.result (AreAccepted spares (provider_of c.plan-plan.result.now c.run-run.result) seat c.args.instrument c.args.all.now))
    c.self.view_is c.record_sets.ensures.accepted)
