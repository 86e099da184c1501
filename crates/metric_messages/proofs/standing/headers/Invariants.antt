-- the count so far, and what is left, come to the count of all
use Rattle.std.proofs.Common.{◌≡◌, ◌≤◌, true, drop}
use Rattle.metric_messages.specs.Standing.{headers}
use Rattle.metric_messages.proofs.standing.headers.Given as goal

abbrev pub invariant-loop-place : goal.invariant-loop-place
invariant-loop-place l = record {
  bound : l.count ≤ l.place;
  exact : headers l.outer l.header l.count l.fresh (drop l.place l.bytes) ≡ headers l.outer l.header 0 true l.bytes;
}
