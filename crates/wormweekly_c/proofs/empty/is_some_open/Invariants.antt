-- the handles hold what they held, and whether some of those so far does
use Rattle.std.proofs.Common.{◌≡◌, take}
use Rattle.std.specs.List.{list_any}
use Rattle.std.specs.Option.{is_some}
use Rattle.wormweekly_c.specs.Opening.{held_in}
use Rattle.wormweekly_c.proofs.empty.is_some_open.Given as goal

abbrev pub invariant-loop-handle : goal.invariant-loop-handle
invariant-loop-handle l = record {
  kept : held_in l.handles ≡ held_in l.fn.handles;
  found : l.found ≡ list_any is_some (take l.handle-index (held_in l.fn.handles));
}
