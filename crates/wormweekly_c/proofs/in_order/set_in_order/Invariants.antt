-- the entries so far, with those of what is left, are those of all; 0 in the places that are left
use Rattle.std.proofs.Common.{◌≡◌, ◌-◌, List, ◌++◌, drop, replicate, take, Some}
use Rattle.std.specs.Prelude.{IsSomeAnd}
use Rattle.metric_contents.specs.Encoding.{Given}
use Rattle.wormweekly_c.specs.Attributes.{attributes_from}
use Rattle.wormweekly_c.proofs.TakenLaws.{AreEntries}
use Rattle.wormweekly_c.proofs.in_order.set_in_order.Given as goal

abbrev pub invariant-loop-place : goal.invariant-loop-place
invariant-loop-place l = record {
  so_far : (attrs : List Given) → attributes_from l.left l.rest ≡ Some attrs
      → IsSomeAnd (attributes_from l.given l.texts) (AreEntries l.keys (take l.place l.set) (drop l.place l.keys) attrs);
  set : l.set ≡ take l.place l.set ++ replicate (8 - l.place) 0;
}
