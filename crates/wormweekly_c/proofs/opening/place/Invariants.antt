-- those that are left, and those that are put
use Rattle.std.proofs.Common.{◌≡◌, length, take}
use Rattle.wormweekly_c.proofs.PlaceLaws.{placed}
use Rattle.wormweekly_c.proofs.opening.place.Given as goal

abbrev pub invariant-loop-one : goal.invariant-loop-one
invariant-loop-one g l = record {
  left : l.made.items ≡ take (length l.made.items) l.fn.made.items;
  put : l.places ≡ placed (length l.made.items) l.fn.made.items l.fn.places;
}

abbrev pub decreases-loop-one : goal.decreases-loop-one
decreases-loop-one g l = length l.made.items
