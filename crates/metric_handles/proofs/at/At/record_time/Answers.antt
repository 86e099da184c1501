-- what is recorded are the whole units
use Rattle.std.proofs.Common.{ℤ, Ok, Err, subst, rules}
use Rattle.metric_handles.specs.Calls.{MakesByBound}
use Rattle.metric_handles.proofs.at.At.record_time.Goals as goal

pub returns-in-Ok-clause-recorded : goal.returns-in-Ok-clause-recorded
returns-in-Ok-clause-recorded g c =
    let P : ℤ → Type 0 = λ v. MakesByBound g.B.Book.KEEPS_ENTRIES g.B.Book.spares_memory g.S.Seat.seat g.S.Seat.notes g.S.Seat.records_set c.args.self.now.provider.now c.args.timer.now.took v c.args.self.now.seat.now c.record.new.seat (Ok tt) in
    subst P c.whole-whole.ensures (record { strange = search rules; made = search rules; noted = search rules; handed = search rules })

pub returns-in-Err-clause-recorded : goal.returns-in-Err-clause-recorded
returns-in-Err-clause-recorded g c =
    let P : ℤ → Type 0 = λ v. MakesByBound g.B.Book.KEEPS_ENTRIES g.B.Book.spares_memory g.S.Seat.seat g.S.Seat.notes g.S.Seat.records_set c.args.self.now.provider.now c.args.timer.now.took v c.args.self.now.seat.now c.record.new.seat (Err c.in-Err.refusal) in
    subst P c.whole-whole.ensures (record { strange = search rules; made = search rules; noted = search rules; handed = search rules })
