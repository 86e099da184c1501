-- the bytes so far
use Rattle.std.proofs.Common.{◌≡◌, map, take}
use Rattle.wormweekly_c.specs.Meanings.{in_line}
use Rattle.wormweekly_c.proofs.expecting.in_line.Given as goal

abbrev pub invariant-loop-byte : goal.invariant-loop-byte
invariant-loop-byte l = l.line.items ≡ map in_line (take l.byte-index l.text)
