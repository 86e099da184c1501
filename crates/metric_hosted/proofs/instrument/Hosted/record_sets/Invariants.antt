-- those so far are made
use Rattle.std.proofs.Common.{take}
use Rattle.metric_hosted.specs.Listings.{AreMade}
use Rattle.metric_hosted.proofs.instrument.Hosted.record_sets.Given as goal

abbrev pub invariant-loop-place : goal.invariant-loop-place
invariant-loop-place l = AreMade l.plan l.fn.self l.self l.fn.seat l.seat (take l.place l.recordings)
