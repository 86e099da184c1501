-- the faults of the streams so far
use Rattle.std.proofs.Common.{◌≡◌, ◌++◌}
use Rattle.std.specs.List.{flat_map, range_with_len}
use Rattle.metric_exposure.specs.declared.outlet.Outlet.TheVariants.{Otlp}
use Rattle.metric_exposure.specs.Exposures.{faults_at}
use Rattle.metric_exposure.proofs.streams.add_otlp_faults.Given as goal

abbrev pub invariant-loop-number : goal.invariant-loop-number
invariant-loop-number l = l.faults.items ≡ l.fn.faults.items ++ flat_map (faults_at Otlp l.catalogue l.streams l.reader) (range_with_len 0 l.number)
