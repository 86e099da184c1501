-- the places so far
use Rattle.std.proofs.Common.{◌≡◌, filter, map}
use Rattle.std.specs.List.{range_with_len}
use Rattle.metric_exposure.specs.Renames.{exported, is_place, is_reached}
use Rattle.metric_exposure.proofs.renames.place_labels.Given as goal

abbrev pub invariant-loop-times : goal.invariant-loop-times
invariant-loop-times l = record {
  name : l.name ≡ exported l._times l.own;
  reached : l.is_reached ≡ is_reached l.keys l.kept l.own l._times;
  places : l.places.items ≡ map (λ n. exported n l.own) (filter (is_place l.keys l.kept l.own) (range_with_len 0 l._times));
}
