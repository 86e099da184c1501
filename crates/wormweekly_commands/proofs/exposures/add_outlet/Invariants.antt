-- what is told of the readers so far
use Rattle.std.proofs.Common.{◌≡◌, ◌++◌}
use Rattle.std.specs.List.{flat_map, range_with_len}
use Rattle.wormweekly_commands.specs.Exposures.{told_exposures}
use Rattle.wormweekly_commands.proofs.exposures.add_outlet.Given as goal

abbrev pub invariant-loop-reader : goal.invariant-loop-reader
invariant-loop-reader l = l.found.items ≡ l.fn.found.items ++ flat_map (told_exposures l.asked.words.now l.asked.outlet l.catalogue l.config l.streams) (range_with_len 0 l.reader)
