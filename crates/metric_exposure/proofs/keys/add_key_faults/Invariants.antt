-- the labels that are taken, with those of the kept keys so far, and the faults of these keys
use Rattle.std.proofs.Common.{◌≡◌, ◌++◌, map, take}
use Rattle.std.specs.List.{flat_map, range_with_len}
use Rattle.metric_lines.specs.Keys.{kept_names}
use Rattle.metric_family.specs.Labels.{label_of}
use Rattle.metric_exposure.specs.KeyFaults.{place_faults}
use Rattle.metric_exposure.proofs.keys.add_key_faults.Given as goal

abbrev pub invariant-loop-place : goal.invariant-loop-place
invariant-loop-place l = record {
  labels : l.labels.items ≡ l.fn.labels.items ++ map label_of (kept_names (take l.place l.keys) (take l.place l.kept));
  faults : l.faults.items ≡ l.fn.faults.items ++ flat_map (place_faults l.number l.fn.labels.items l.keys l.kept) (range_with_len 0 l.place);
}
