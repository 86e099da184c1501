-- the first stream of each key and the warnings, of the streams so far
use Rattle.std.proofs.Common.{◌≡◌, ◌++◌, Some, take}
use Rattle.std.specs.List.{filter_map, range_with_len}
use Rattle.metric_resolve.specs.declared.stream_key.StreamKey.{StreamKey}
use Rattle.metric_resolve.specs.Collisions.{Identity, collision_at, first_of}
use Rattle.metric_resolve.specs.Firsts.{first_in}
use Rattle.metric_resolve.specs.StreamKeys.{identity_by}
use Rattle.metric_resolve.proofs.collisions.add_collisions.Given as goal

abbrev pub invariant-loop-number : goal.invariant-loop-number
invariant-loop-number l = record {
  firsts : (k : StreamKey) (x : Identity) → identity_by l.catalogue k ≡ Some x → first_in l.firsts k ≡ first_of l.catalogue (take l.number l.streams) x;
  warnings : l.warnings ≡ l.fn.warnings ++ filter_map (collision_at l.catalogue l.streams) (range_with_len 0 l.number);
}
