-- those so far are ASCII
use Rattle.std.proofs.Common.{ℕ, ◌<◌, get_or}
use Rattle.wormweekly_c.proofs.attributes.is_plain.Given as goal

abbrev pub invariant-loop-byte : goal.invariant-loop-byte
invariant-loop-byte l = (k : ℕ) → k < l.byte-index → get_or l.text k 0 < 128
