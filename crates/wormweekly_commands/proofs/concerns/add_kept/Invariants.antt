-- what was kept so far
use Rattle.std.proofs.Common.{◌≡◌, ◌++◌, take}
use Rattle.std.specs.List.{flat_map}
use Rattle.wormweekly_commands.specs.Concerns.{unless_named}
use Rattle.wormweekly_commands.proofs.concerns.add_kept.Given as goal

abbrev pub invariant-loop-one : goal.invariant-loop-one
invariant-loop-one g l = l.kept ≡ l.fn.kept ++ flat_map (unless_named g.K.Kinded.kind l.allowed) (take l.one-index l.all)
