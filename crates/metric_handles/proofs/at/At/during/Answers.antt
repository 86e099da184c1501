-- what was added is taken away after the work
use Rattle.std.proofs.Common.{rules}
use Rattle.metric_handles.proofs.at.At.during.Goals as goal

pub returns-in-Ok-clause-counted : goal.returns-in-Ok-clause-counted
returns-in-Ok-clause-counted g c = record { before = c.begin-began.new.self.seat.now; after = c.work-done.new.arg2; began = c.begin-began.result; begins = search rules; worked = search rules; ends = search rules }

pub returns-in-Err-clause-counted : goal.returns-in-Err-clause-counted
returns-in-Err-clause-counted g c = record { before = c.begin-began.new.self.seat.now; after = c.work-done.new.arg2; began = c.begin-began.result; begins = search rules; worked = search rules; ends = search rules }
