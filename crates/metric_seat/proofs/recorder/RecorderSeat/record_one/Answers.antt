-- a list of one
use Rattle.std.proofs.Common.{[], ◌∷◌, Ok, Err, sym, ap, subst, ◌∙◌}
use Rattle.metric_seat.specs.declared.fault.SetsFault.{SetsFault}
use Rattle.metric_seat.specs.declared.keys.Measurement.{Measurement}
use Rattle.metric_seat.specs.Handing.{Hands}
use Rattle.metric_seat.specs.KeyRecordings.{IsAdmitted, IsRefusedAfter, measurement_of, noted_of_all}
use Rattle.metric_seat.specs.Recordings.{SeatSpares}
use Rattle.metric_seat.specs.Seats.{ProviderValue, provider_of}
use Rattle.metric_seat.proofs.KeyLaws.{admitted_one, answer_of_one, only_place, same_after_one, told_of_one}
use Rattle.metric_seat.proofs.NotingLaws.{none_noted_any, one_handed}
use Rattle.metric_seat.proofs.recorder.RecorderSeat.record_one.Goals as goal

pub record_each-requires : goal.record_each-requires
record_each-requires g c =
    let p : ProviderValue = provider_of c.args.plan.now c.args.run in
    admitted_one p c.args.self.now c.args.instrument c.recording_of-one.result
    (subst (λ (one : Measurement). IsAdmitted p c.args.self.now c.args.instrument one) (sym c.recording_of-one.ensures) c.requires)

pub returns-in-Ok-clause-told : goal.returns-in-Ok-clause-told
returns-in-Ok-clause-told g c =
    told_of_one g.B.Book.KEEPS_ENTRIES c.args.plan.now c.args.self.now c.record_each.new.self c.args.instrument c.args.set c.args.value.now
    (c.in-Ok.ensures.told ∙ ap (λ (one : Measurement). noted_of_all g.B.Book.KEEPS_ENTRIES c.args.plan.now c.args.self.now c.args.instrument (one ∷ [])) c.recording_of-one.ensures)

pub returns-in-Ok-clause-handed : goal.returns-in-Ok-clause-handed
returns-in-Ok-clause-handed g c =
    subst (λ (one : Measurement). Hands g.B.Book.KEEPS_ENTRIES g.H.Held.records c.args.plan.now c.args.self.now c.args.instrument c.args.held.now c.record_each.new.held (one ∷ []) (Ok tt))
    c.recording_of-one.ensures
    (one_handed g.B.Book.KEEPS_ENTRIES g.H.Held.records c.args.plan.now c.args.self.now c.args.instrument c.args.held.now c.record_each.new.held c.recording_of-one.result (Ok tt) c.in-Ok.ensures.handed)

pub returns-in-Err-clause-answer : goal.returns-in-Err-clause-answer
returns-in-Err-clause-answer g c =
    let p : ProviderValue = provider_of c.args.plan.now c.args.run in
    let spares = SeatSpares g.B.Book.KEEPS_ENTRIES g.B.Book.spares_memory in
    answer_of_one spares p c.args.self.now c.args.instrument c.args.set c.args.value.now c.in-Err.fault c.requires
    (subst (λ (one : Measurement). IsRefusedAfter spares p c.args.self.now c.args.instrument (one ∷ []) c.in-Err.fault) c.recording_of-one.ensures c.in-Err.ensures.refused)

pub returns-in-Err-clause-err : goal.returns-in-Err-clause-err
returns-in-Err-clause-err g c =
    same_after_one g.B.Book.KEEPS_ENTRIES (SeatSpares g.B.Book.KEEPS_ENTRIES g.B.Book.spares_memory) (provider_of c.args.plan.now c.args.run) c.args.self.now c.record_each.new.self c.args.instrument
    c.recording_of-one.result c.in-Err.fault c.in-Err.ensures.refused c.in-Err.ensures.told_before (none_noted_any g.B.Book.KEEPS_ENTRIES c.args.self.now c.args.instrument)

pub returns-in-Err-clause-handed : goal.returns-in-Err-clause-handed
returns-in-Err-clause-handed g c =
    let p : ProviderValue = provider_of c.args.plan.now c.args.run in
    let spares = SeatSpares g.B.Book.KEEPS_ENTRIES g.B.Book.spares_memory in
    subst (λ (fault : SetsFault).
    Hands g.B.Book.KEEPS_ENTRIES g.H.Held.records c.args.plan.now c.args.self.now c.args.instrument c.args.held.now c.record_each.new.held (measurement_of c.args.set c.args.value.now ∷ []) (Err fault))
    (only_place spares p c.args.self.now c.args.instrument c.recording_of-one.result c.in-Err.fault c.in-Err.ensures.refused)
    (subst (λ (one : Measurement).
    Hands g.B.Book.KEEPS_ENTRIES g.H.Held.records c.args.plan.now c.args.self.now c.args.instrument c.args.held.now c.record_each.new.held (one ∷ []) (Err c.in-Err.fault))
    c.recording_of-one.ensures
    (one_handed g.B.Book.KEEPS_ENTRIES g.H.Held.records c.args.plan.now c.args.self.now c.args.instrument c.args.held.now c.record_each.new.held c.recording_of-one.result (Err c.in-Err.fault)
    c.in-Err.ensures.handed))
