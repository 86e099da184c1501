-- what was put last of the faults so far
use Rattle.std.proofs.Common.{◌≡◌, ◌++◌, map, take}
use Rattle.wormweekly_commands.specs.Exposures.{exposure_of}
use Rattle.wormweekly_commands.proofs.exposures.add_faults.Given as goal

abbrev pub invariant-loop-fault : goal.invariant-loop-fault
invariant-loop-fault l = l.found.items ≡ l.fn.found.items ++ map (exposure_of l.outlet) (take l.fault-index l.faults)
