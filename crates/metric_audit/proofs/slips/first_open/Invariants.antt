-- the places so far await nothing
use Rattle.std.proofs.Common.{ℕ, ◌<◌, []}
use Rattle.metric_audit.specs.Slips.{Awaits, handed_in, next_place}
use Rattle.metric_audit.proofs.slips.first_open.Given as goal

abbrev pub invariant-loop-recorder : goal.invariant-loop-recorder
invariant-loop-recorder l = (other : ℕ) → other < l.recorder → Awaits (next_place l.places other) (handed_in l.slips other) []
