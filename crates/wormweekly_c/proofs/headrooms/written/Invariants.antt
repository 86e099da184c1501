-- what is written so far
use Rattle.std.proofs.Common.{◌≡◌, map, take}
use Rattle.wormweekly_c.specs.Headrooms.{written_headroom}
use Rattle.wormweekly_c.proofs.headrooms.written.Given as goal

abbrev pub invariant-loop-headroom : goal.invariant-loop-headroom
invariant-loop-headroom l = l.list.items ≡ map written_headroom (take l.headroom-index l.all)
