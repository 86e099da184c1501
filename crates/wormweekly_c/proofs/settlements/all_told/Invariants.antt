-- the handles hold what they held, and those so far have told
use Rattle.std.proofs.Common.{◌≡◌, take}
use Rattle.wormweekly_c.specs.Opening.{held_in}
use Rattle.wormweekly_c.specs.Settlements.{AllTold, recorders_in}
use Rattle.wormweekly_c.proofs.settlements.all_told.Given as goal

abbrev pub invariant-loop-handle : goal.invariant-loop-handle
invariant-loop-handle l = record {
  kept : held_in l.recorders ≡ held_in l.fn.recorders;
  told : AllTold l.held (take l.handle-index (recorders_in l.fn.recorders)) l.all.items;
}
