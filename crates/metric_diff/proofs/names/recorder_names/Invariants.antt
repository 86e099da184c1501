-- the names of the recorders so far
use Rattle.std.proofs.Common.{◌≡◌, map, take}
use Rattle.metric_diff.proofs.names.recorder_names.Given as goal

abbrev pub invariant-loop-recorder : goal.invariant-loop-recorder
invariant-loop-recorder l = l.names ≡ map (λ recorder. recorder.name) (take l.recorder-index l.recorders)
