-- as many instruments as before
use Rattle.std.proofs.Common.{◌≡◌, vec_len}
use Rattle.metric_provider.proofs.starting.add_lanes.Given as goal

abbrev pub invariant-loop-instrument : goal.invariant-loop-instrument
invariant-loop-instrument g l = vec_len l.all ≡ vec_len l.fn.all
