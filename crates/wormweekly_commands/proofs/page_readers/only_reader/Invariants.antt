-- the only one of the readers so far
use Rattle.std.proofs.Common.{◌≡◌}
use Rattle.std.specs.Prelude.{filter}
use Rattle.std.specs.List.{range_with_len}
use Rattle.metric_exposure.specs.declared.outlet.Outlet.TheVariants.{Prometheus}
use Rattle.wormweekly_commands.specs.Exposures.{has_served}
use Rattle.wormweekly_commands.specs.PageReaders.{only_reader}
use Rattle.wormweekly_commands.proofs.page_readers.only_reader.Given as goal

abbrev pub invariant-loop-reader : goal.invariant-loop-reader
invariant-loop-reader l = l.found ≡ only_reader (filter (has_served Prometheus l.streams) (range_with_len 0 l.reader))
