-- the place so far, and after the bytes that are left, is that after all
use Rattle.std.proofs.Common.{◌≡◌, ◌≤◌, ◌+◌, drop}
use Rattle.metric_messages.specs.Marks.{after_all, start}
use Rattle.metric_messages.proofs.marked.after_all.Given as goal

abbrev pub invariant-loop-byte : goal.invariant-loop-byte
invariant-loop-byte l = record {
  line : l.place.line ≤ l.byte-index + 1;
  column : l.place.column ≤ l.byte-index + 1;
  exact : after_all l.place (drop l.byte-index l.bytes) ≡ after_all start l.bytes;
}
