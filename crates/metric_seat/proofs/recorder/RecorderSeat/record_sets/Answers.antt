-- all are accepted, or one is refused before the lock
use Rattle.std.proofs.Common.{◌≡◌, ◌≤◌, ℕ, List, Result, OnOk, IfErr, inl, inr, length, take, sym, ap, subst, ◌∙◌, arith}
use Rattle.std.proofs.lemmas.List.{length-take-le, take_all}
use Rattle.std.proofs.lemmas.Result.{IfErr-weaker, err_from_is_err_and, on_ok_weaker}
use Rattle.metric_seat.specs.declared.fault.SetsFault.{SetsFault}
use Rattle.metric_seat.specs.declared.keys.Measurement.{Measurement}
use Rattle.metric_seat.specs.KeyRecordings.{AreAccepted, AreAdmitted, AreFirstAdmitted, IsRefusedAfter, IsUnadmittedAfter, noted_of_all}
use Rattle.metric_seat.specs.Recordings.{SeatSpares}
use Rattle.metric_seat.specs.Seats.{ProviderValue, provider_of}
use Rattle.metric_seat.proofs.KeyLaws.{all_accepted, refused_before, refused_within, same_before, unadmitted_there}
use Rattle.metric_seat.proofs.recorder.RecorderSeat.record_sets.Goals as goal
use Rattle.metric_seat.proofs.recorder.RecorderSeat.record_sets.Goals.{in-Ok, in-Err}

pub returns-clause-accepted : goal.returns-clause-accepted
returns-clause-accepted g c =
    let p : ProviderValue = provider_of c.args.plan.now c.args.run in
    let seat = c.args.self.now in
    let all = c.args.all.now in
    let is : c.match-admitted.admitted ≡ c.admit_each-admitted.result =
    elim c.match-admitted.branch [ in-Ok w ↦ w.admitted-is | in-Err w ↦ w.admitted-is ∙ sym w.in-Err.is ] in
    subst (λ (r : Result (Unit {0}) SetsFault). OnOk r (AreAccepted (SeatSpares g.B.Book.KEEPS_ENTRIES g.B.Book.spares_memory) p seat c.args.instrument all)) (sym is)
    (on_ok_weaker c.admit_each-admitted.result
    (λ admitted. all_accepted (SeatSpares g.B.Book.KEEPS_ENTRIES g.B.Book.spares_memory) p seat c.args.instrument all admitted)
    c.admit_each-admitted.ensures.admitted)

pub returns-clause-refused : goal.returns-clause-refused
returns-clause-refused g c =
    let p : ProviderValue = provider_of c.args.plan.now c.args.run in
    let seat = c.args.self.now in
    let all = c.args.all.now in
    let is : c.match-admitted.admitted ≡ c.admit_each-admitted.result =
    elim c.match-admitted.branch [ in-Ok w ↦ w.admitted-is | in-Err w ↦ w.admitted-is ∙ sym w.in-Err.is ] in
    subst (λ (r : Result (Unit {0}) SetsFault). IfErr r (IsRefusedAfter (SeatSpares g.B.Book.KEEPS_ENTRIES g.B.Book.spares_memory) p seat c.args.instrument all)) (sym is)
    (IfErr-weaker c.admit_each-admitted.result (IsUnadmittedAfter (provider_of c.args.plan.now c.args.run) seat c.args.instrument all) (IsRefusedAfter (SeatSpares g.B.Book.KEEPS_ENTRIES g.B.Book.spares_memory) p seat c.args.instrument all)
    (λ fault refused. refused_before (SeatSpares g.B.Book.KEEPS_ENTRIES g.B.Book.spares_memory) p seat c.args.instrument all fault refused)
    c.admit_each-admitted.ensures.refused)

-- ---- those that are brought under the lock

pub slice_bounds-record_each-end : goal.slice_bounds-record_each-end
slice_bounds-record_each-end g c =
    let within : c.match-admitted.count ≤ length c.args.all.now =
    elim c.match-admitted.branch [
      | in-Ok w ↦ omega (arith, w.count-is)
      | in-Err w ↦ omega (arith, w.count-is, unadmitted_there (provider_of c.args.plan.now c.args.run) c.args.self.now c.args.instrument c.args.all.now w.in-Err.fault w.in-Err.ensures.refused)
    ] in
    sym (length-take-le c.match-admitted.count c.args.all.now within)

pub record_each-requires : goal.record_each-requires
record_each-requires g c =
    let seat = c.args.self.now in
    let all = c.args.all.now in
    let q : ProviderValue = provider_of c.args.plan.now c.args.run in
    let admitted : AreAdmitted q seat c.args.instrument (take c.match-admitted.count all) =
    elim c.match-admitted.branch [
      | in-Ok w ↦ subst (λ (some : List Measurement). AreAdmitted q seat c.args.instrument some) (sym (take_all c.match-admitted.count all (omega (arith, w.count-is)))) w.in-Ok.ensures.admitted
      | in-Err w ↦ subst (λ (n : ℕ). AreAdmitted q seat c.args.instrument (take n all)) (sym w.count-is) w.in-Err.ensures.refused.before
    ] in
    admitted

pub returns-in_err-record_each-clause-accepted : goal.returns-in_err-record_each-clause-accepted
returns-in_err-record_each-clause-accepted g c =
    let first = err_from_is_err_and c.from_residual.result c.from_residual.ensures.1 in
    subst (λ (r : Result (Unit {0}) SetsFault). OnOk r (AreAccepted (SeatSpares g.B.Book.KEEPS_ENTRIES g.B.Book.spares_memory) (provider_of c.args.plan.now c.args.run) c.args.self.now c.args.instrument c.args.all.now))
    (sym first.1) tt

pub returns-in_err-record_each-clause-told : goal.returns-in_err-record_each-clause-told
returns-in_err-record_each-clause-told g c =
    let first = err_from_is_err_and c.from_residual.result c.from_residual.ensures.1 in
    subst (λ (r : Result (Unit {0}) SetsFault). OnOk r (c.record_each.new.self ≡ noted_of_all g.B.Book.KEEPS_ENTRIES c.args.plan.now c.args.self.now c.args.instrument c.args.all.now))
    (sym first.1) tt

pub returns-in_err-record_each-clause-refused : goal.returns-in_err-record_each-clause-refused
returns-in_err-record_each-clause-refused g c =
    let seat = c.args.self.now in
    let all = c.args.all.now in
    let first = err_from_is_err_and c.from_residual.result c.from_residual.ensures.1 in
    let within : c.match-admitted.count ≤ length c.args.all.now =
    elim c.match-admitted.branch [
      | in-Ok w ↦ omega (arith, w.count-is)
      | in-Err w ↦ omega (arith, w.count-is, unadmitted_there (provider_of c.args.plan.now c.args.run) c.args.self.now c.args.instrument c.args.all.now w.in-Err.fault w.in-Err.ensures.refused)
    ] in
    let spares = SeatSpares g.B.Book.KEEPS_ENTRIES g.B.Book.spares_memory in
    let refused : IsRefusedAfter spares (provider_of c.args.plan.now c.args.run) seat c.args.instrument (take c.match-admitted.count all) c.in_err-record_each.field-0.0 =
    c.in_err-record_each.ensures.refused in
    subst (λ (r : Result (Unit {0}) SetsFault). IfErr r (IsRefusedAfter (SeatSpares g.B.Book.KEEPS_ENTRIES g.B.Book.spares_memory) (provider_of c.args.plan.now c.args.run) seat c.args.instrument all)) (sym first.1)
    (subst (λ (fault : SetsFault). IsRefusedAfter (SeatSpares g.B.Book.KEEPS_ENTRIES g.B.Book.spares_memory) (provider_of c.args.plan.now c.args.run) seat c.args.instrument all fault) (sym first.2)
    (refused_within (SeatSpares g.B.Book.KEEPS_ENTRIES g.B.Book.spares_memory) (provider_of c.args.plan.now c.args.run) seat c.args.instrument c.match-admitted.count all c.in_err-record_each.field-0.0 within
    refused))

pub returns-in_err-record_each-clause-told_before : goal.returns-in_err-record_each-clause-told_before
returns-in_err-record_each-clause-told_before g c =
    let seat = c.args.self.now in
    let all = c.args.all.now in
    let plan = c.args.plan.now in
    let new = c.record_each.new.self in
    let first = err_from_is_err_and c.from_residual.result c.from_residual.ensures.1 in
    let within : c.match-admitted.count ≤ length c.args.all.now =
    elim c.match-admitted.branch [
      | in-Ok w ↦ omega (arith, w.count-is)
      | in-Err w ↦ omega (arith, w.count-is, unadmitted_there (provider_of c.args.plan.now c.args.run) c.args.self.now c.args.instrument c.args.all.now w.in-Err.fault w.in-Err.ensures.refused)
    ] in
    let spares = SeatSpares g.B.Book.KEEPS_ENTRIES g.B.Book.spares_memory in
    let refused : IsRefusedAfter spares (provider_of c.args.plan.now c.args.run) seat c.args.instrument (take c.match-admitted.count all) c.in_err-record_each.field-0.0 =
    c.in_err-record_each.ensures.refused in
    subst (λ (r : Result (Unit {0}) SetsFault). IfErr r (λ (fault : SetsFault). new ≡ noted_of_all g.B.Book.KEEPS_ENTRIES plan seat c.args.instrument (take fault.place all))) (sym first.1)
    (subst (λ (fault : SetsFault). new ≡ noted_of_all g.B.Book.KEEPS_ENTRIES plan seat c.args.instrument (take fault.place all)) (sym first.2)
    (c.in_err-record_each.ensures.told_before
    ∙ ap (λ (made : List Measurement). noted_of_all g.B.Book.KEEPS_ENTRIES plan seat c.args.instrument made)
    (same_before (SeatSpares g.B.Book.KEEPS_ENTRIES g.B.Book.spares_memory) (provider_of c.args.plan.now c.args.run) seat c.args.instrument c.match-admitted.count all c.in_err-record_each.field-0.0 within
    refused)))

-- ---- those of which the seat was told

pub returns-clause-told : goal.returns-clause-told
returns-clause-told g c =
    let seat = c.args.self.now in
    let all = c.args.all.now in
    let plan = c.args.plan.now in
    let new = c.record_each.new.self in
    let told : new ≡ noted_of_all g.B.Book.KEEPS_ENTRIES plan seat c.args.instrument (take c.match-admitted.count all) =
    c.in_ok-record_each.ensures.told in
    elim c.match-admitted.branch [
      | in-Ok w ↦
          subst (λ (r : Result (Unit {0}) SetsFault). OnOk r (new ≡ noted_of_all g.B.Book.KEEPS_ENTRIES plan seat c.args.instrument all)) (sym (w.admitted-is ∙ w.in-Ok.is))
          (told ∙ ap (λ (made : List Measurement). noted_of_all g.B.Book.KEEPS_ENTRIES plan seat c.args.instrument made) (take_all c.match-admitted.count all (omega (arith, w.count-is))))
      | in-Err w ↦ subst (λ (r : Result (Unit {0}) SetsFault). OnOk r (new ≡ noted_of_all g.B.Book.KEEPS_ENTRIES plan seat c.args.instrument all)) (sym w.admitted-is) tt
    ]

pub returns-clause-told_before : goal.returns-clause-told_before
returns-clause-told_before g c =
    let seat = c.args.self.now in
    let all = c.args.all.now in
    let plan = c.args.plan.now in
    let new = c.record_each.new.self in
    let told : new ≡ noted_of_all g.B.Book.KEEPS_ENTRIES plan seat c.args.instrument (take c.match-admitted.count all) =
    c.in_ok-record_each.ensures.told in
    elim c.match-admitted.branch [
      | in-Ok w ↦
          subst (λ (r : Result (Unit {0}) SetsFault). IfErr r (λ (fault : SetsFault). new ≡ noted_of_all g.B.Book.KEEPS_ENTRIES plan seat c.args.instrument (take fault.place all)))
          (sym (w.admitted-is ∙ w.in-Ok.is)) tt
      | in-Err w ↦
          subst (λ (r : Result (Unit {0}) SetsFault). IfErr r (λ (fault : SetsFault). new ≡ noted_of_all g.B.Book.KEEPS_ENTRIES plan seat c.args.instrument (take fault.place all)))
          (sym w.admitted-is) (told ∙ ap (λ (n : ℕ). noted_of_all g.B.Book.KEEPS_ENTRIES plan seat c.args.instrument (take n all)) w.count-is)
    ]

-- ---- those that were handed on

pub returns-clause-handed : goal.returns-clause-handed
returns-clause-handed g c =
    let q : ProviderValue = provider_of c.args.plan.now c.args.run in
    let all = c.args.all.now in
    let admitted : AreFirstAdmitted q c.args.self.now c.args.instrument all (take c.match-admitted.count all) =
    elim c.match-admitted.branch [
      | in-Ok w ↦ inl (take_all c.match-admitted.count all (omega (arith, w.count-is)), w.in-Ok.ensures.admitted)
      | in-Err w ↦ inr (w.in-Err.fault, ap (λ (n : ℕ). take n all) w.count-is, w.in-Err.ensures.refused)
    ] in
    record { some = take c.match-admitted.count all; admitted = admitted; made = c.record_each.result; handed = c.record_each.ensures.handed }

pub returns-in_err-record_each-clause-handed : goal.returns-in_err-record_each-clause-handed
returns-in_err-record_each-clause-handed g c =
    let q : ProviderValue = provider_of c.args.plan.now c.args.run in
    let all = c.args.all.now in
    let admitted : AreFirstAdmitted q c.args.self.now c.args.instrument all (take c.match-admitted.count all) =
    elim c.match-admitted.branch [
      | in-Ok w ↦ inl (take_all c.match-admitted.count all (omega (arith, w.count-is)), w.in-Ok.ensures.admitted)
      | in-Err w ↦ inr (w.in-Err.fault, ap (λ (n : ℕ). take n all) w.count-is, w.in-Err.ensures.refused)
    ] in
    record { some = take c.match-admitted.count all; admitted = admitted; made = c.record_each.result; handed = c.record_each.ensures.handed }
