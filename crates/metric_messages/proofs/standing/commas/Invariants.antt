-- the commas so far and those that are left are all
use Rattle.std.proofs.Common.{◌≡◌, ◌+◌, ◌≤◌, drop}
use Rattle.metric_messages.specs.Standing.{commas}
use Rattle.metric_messages.proofs.standing.commas.Given as goal

abbrev pub invariant-loop-byte : goal.invariant-loop-byte
invariant-loop-byte l = record {
  bound : l.count ≤ l.byte-index;
  exact : l.count + commas (drop l.byte-index l.bytes) ≡ commas l.bytes;
}
