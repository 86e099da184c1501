-- the seat may make those so far
use Rattle.std.proofs.Common.{take}
use Rattle.metric_seat.specs.KeyRecordings.{AreAdmitted}
use Rattle.metric_seat.specs.Seats.{provider_of}
use Rattle.metric_seat.proofs.recorder.RecorderSeat.admit_each.Given as goal

abbrev pub invariant-loop-place : goal.invariant-loop-place
invariant-loop-place l = AreAdmitted (provider_of l.plan l.fn.run) l.self l.instrument (take l.place l.all)
