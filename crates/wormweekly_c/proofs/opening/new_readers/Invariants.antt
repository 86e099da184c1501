-- the seats so far
use Rattle.std.proofs.Common.{◌≡◌, map}
use Rattle.std.specs.List.{range_with_len}
use Rattle.wormweekly_c.specs.Opening.{held_in, new_reader_of}
use Rattle.wormweekly_c.proofs.opening.new_readers.Given as goal

abbrev pub invariant-loop-number : goal.invariant-loop-number
invariant-loop-number l = held_in l.all.items ≡ map (new_reader_of l.plan l.run) (range_with_len 0 l.number)
