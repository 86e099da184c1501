-- the time between the two readings is recorded
use Rattle.std.proofs.Common.{rules}
use Rattle.metric_handles.proofs.at.At.timed_by.Goals as goal

pub returns-in_default-clause-timed : goal.returns-in_default-clause-timed
returns-in_default-clause-timed g c = record {
  timed = record { after = c.work-done.new.arg2; first = c.moment-first.result; last = c.moment-last.result; worked = search rules; told = search rules };
  between = c.moment-first.new.self;
  began = search rules;
  ended = search rules;
}

pub returns-in_default-last-clause-timed : goal.returns-in_default-last-clause-timed
returns-in_default-last-clause-timed g c = record {
  timed = record { after = c.work-done.new.arg2; first = c.moment-first.result; last = c.moment-last.result; worked = search rules; told = search rules };
  between = c.moment-first.new.self;
  began = search rules;
  ended = search rules;
}

pub returns-clause-timed : goal.returns-clause-timed
returns-clause-timed g c = record {
  timed = record { after = c.work-done.new.arg2; first = c.moment-first.result; last = c.moment-last.result; worked = search rules; told = search rules };
  between = c.moment-first.new.self;
  began = search rules;
  ended = search rules;
}
