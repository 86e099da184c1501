-- what is left so far
use Rattle.std.proofs.Common.{◌≡◌, ◌++◌, take}
use Rattle.wormweekly_commands.specs.Concerns.{still_open}
use Rattle.wormweekly_commands.proofs.concerns.add_open.Given as goal

abbrev pub invariant-loop-place : goal.invariant-loop-place
invariant-loop-place l = l.left ≡ l.fn.left ++ still_open l.accepted (take l.place l.changes)
