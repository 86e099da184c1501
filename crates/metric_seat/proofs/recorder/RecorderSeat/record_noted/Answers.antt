-- all have slips before the lock is taken, and those that were not told of are struck out
use Rattle.std.proofs.Common.{◌++◌, Ok, Err, List, inl, inr, map, take, refl}
use Rattle.std.specs.Prelude.{slice_set}
use Rattle.metric_history.specs.declared.slip.Slip.{Slip}
use Rattle.metric_seat.specs.KeyRecordings.{slip_of_one}
use Rattle.metric_seat.specs.Seats.{provider_of, slips_at}
use Rattle.metric_seat.proofs.NotingLaws.{admitted_alike, alike_after, handed_alike, no_slips_after, noted_then_told, still_long, struck_after}
use Rattle.metric_seat.proofs.recorder.RecorderSeat.record_noted.Goals as goal

pub returns-in-Err-clause-refused : goal.returns-in-Err-clause-refused
returns-in-Err-clause-refused g c =
    no_slips_after g.B.Book.spares_memory (provider_of c.args.plan.now c.args.run) c.args.self.now c.args.instrument c.args.all.now c.in-Err.refusal c.requires.some c.requires.admitted c.in-Err.ensures.refused

pub record_told-requires-clause-some : goal.record_told-requires-clause-some
record_told-requires-clause-some g c = c.requires.some

pub record_told-requires-clause-admitted : goal.record_told-requires-clause-admitted
record_told-requires-clause-admitted g c =
    let slips : List (List Slip) = slice_set c.args.self.now.slips c.args.instrument (slips_at c.args.self.now c.args.instrument ++ map slip_of_one c.args.all.now) in
    admitted_alike (provider_of c.args.plan.now c.args.run) c.args.self.now c.note_each.new.self c.args.instrument slips c.args.all.now c.in-Ok.ensures.noted c.requires.admitted

pub strike_out-requires : goal.strike_out-requires
strike_out-requires g c =
    still_long c.args.plan.now c.args.self.now c.note_each.new.self c.record_told.new.self c.args.instrument (map slip_of_one c.args.all.now)
    (take c.in-Err-record_told.fault.place c.args.all.now) c.in-Ok.ensures.within c.in-Ok.ensures.noted c.in-Err-record_told.ensures.told_before

pub returns-in-Ok-record_told-clause-told : goal.returns-in-Ok-record_told-clause-told
returns-in-Ok-record_told-clause-told g c =
    noted_then_told c.args.plan.now c.args.self.now c.note_each.new.self c.record_told.new.self c.args.instrument c.args.all.now
    c.in-Ok.ensures.noted c.in-Ok-record_told.ensures.told

pub returns-in-Err-record_told-clause-refused : goal.returns-in-Err-record_told-clause-refused
returns-in-Err-record_told-clause-refused g c =
    let slips : List (List Slip) = slice_set c.args.self.now.slips c.args.instrument (slips_at c.args.self.now c.args.instrument ++ map slip_of_one c.args.all.now) in
    alike_after g.B.Book.spares_memory (provider_of c.args.plan.now c.args.run) c.args.self.now c.note_each.new.self c.args.instrument slips c.args.all.now c.in-Err-record_told.fault
    c.in-Ok.ensures.noted c.in-Err-record_told.ensures.refused

pub returns-in-Err-record_told-clause-told_before : goal.returns-in-Err-record_told-clause-told_before
returns-in-Err-record_told-clause-told_before g c =
    struck_after g.B.Book.spares_memory (provider_of c.args.plan.now c.args.run) c.args.self.now c.note_each.new.self c.record_told.new.self c.strike_out.new.self c.args.instrument
    c.saturating_sub.result c.args.all.now c.in-Err-record_told.fault c.in-Ok.ensures.within c.in-Ok.ensures.noted c.in-Err-record_told.ensures.refused
    c.saturating_sub.ensures c.in-Err-record_told.ensures.told_before c.strike_out.ensures

pub returns-in-Err-clause-handed : goal.returns-in-Err-clause-handed
returns-in-Err-clause-handed g c = inl (record { noted = refl; first = refl; why = c.in-Err.ensures.refused; same = refl })

pub returns-in-Ok-record_told-clause-handed : goal.returns-in-Ok-record_told-clause-handed
returns-in-Ok-record_told-clause-handed g c =
    handed_alike g.H.Held.records c.args.plan.now c.args.self.now c.note_each.new.self c.args.instrument (map slip_of_one c.args.all.now) c.args.held.now c.record_told.new.held c.args.all.now (Ok tt)
    c.in-Ok.ensures.noted c.in-Ok-record_told.ensures.handed

pub returns-in-Err-record_told-clause-handed : goal.returns-in-Err-record_told-clause-handed
returns-in-Err-record_told-clause-handed g c =
    inr (handed_alike g.H.Held.records c.args.plan.now c.args.self.now c.note_each.new.self c.args.instrument (map slip_of_one c.args.all.now) c.args.held.now c.record_told.new.held c.args.all.now
    (Err c.in-Err-record_told.fault) c.in-Ok.ensures.noted c.in-Err-record_told.ensures.handed)
