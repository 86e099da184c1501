-- the refusals of the instruments so far, and those that are left
use Rattle.std.proofs.Common.{◌≡◌, ◌++◌, drop}
use Rattle.metric_handles.specs.Refused.{refusals_from, refusals_of}
use Rattle.metric_handles.proofs.counted.Counted.refusals.Given as goal

abbrev pub invariant-loop-instrument : goal.invariant-loop-instrument
invariant-loop-instrument g l = l.all.items ++ refusals_from l.instrument (drop l.instrument l.self.counts) ≡ refusals_of l.self.counts
