-- the first stream of each name and scope, and the faults, of the streams so far
use Rattle.std.proofs.Common.{◌≡◌, ℕ, List, ◌++◌, take}
use Rattle.std.specs.BTreeMap.{get_by_text}
use Rattle.std.specs.List.{flat_map, range_with_len}
use Rattle.metric_exposure.specs.declared.outlet.Outlet.TheVariants.{Prometheus}
use Rattle.metric_exposure.specs.Collisions.{first_claim}
use Rattle.metric_exposure.specs.Exposures.{faults_at}
use Rattle.metric_exposure.specs.Sharing.{first_scoped}
use Rattle.metric_exposure.proofs.streams.add_page_faults.Given as goal

abbrev pub invariant-loop-number : goal.invariant-loop-number
invariant-loop-number l = record {
  names : (name : List ℕ) → get_by_text l.taken.names name ≡ first_claim l.reader (take l.number l.streams) name;
  scopes : (name : List ℕ) → get_by_text l.taken.scopes name ≡ first_scoped l.catalogue l.reader (take l.number l.streams) name;
  faults : l.faults.items ≡ l.fn.faults.items ++ flat_map (faults_at Prometheus l.catalogue l.streams l.reader) (range_with_len 0 l.number);
}
