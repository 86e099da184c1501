-- the flags of the readers so far
use Rattle.std.proofs.Common.{◌≡◌, map, take}
use Rattle.metric_facts.specs.Facts.{is_delta_reader}
use Rattle.metric_facts.proofs.instruments.delta_flags.Given as goal

abbrev pub invariant-loop-reader : goal.invariant-loop-reader
invariant-loop-reader l = l.flags ≡ map (is_delta_reader l.kind) (take l.reader-index l.readers)
