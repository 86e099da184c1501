-- the entries so far, and those of the keys that are left, are those of all; 0 in the places that are left
use Rattle.std.proofs.Common.{◌≡◌, ◌-◌, [], ◌++◌, drop, map, replicate, take}
use Rattle.metric_contents.specs.InOrder.{entries_after}
use Rattle.metric_contents.proofs.encode.set_in_order.Given as goal

abbrev pub invariant-loop-place : goal.invariant-loop-place
invariant-loop-place g l = record {
  exact : entries_after (take l.place l.set) (drop l.place l.keys) (map g.A.Attribute.given l.left)
      ≡ entries_after [] l.keys (map g.A.Attribute.given l.attrs);
  set : l.set ≡ take l.place l.set ++ replicate (8 - l.place) 0;
}
