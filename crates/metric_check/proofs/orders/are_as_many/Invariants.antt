-- as many are left as the orders so far do not name
use Rattle.std.proofs.Common.{◌≡◌, ◌+◌, drop, length}
use Rattle.metric_check.specs.Rising.{named_by}
use Rattle.metric_check.proofs.orders.are_as_many.Given as goal

abbrev pub invariant-loop-order : goal.invariant-loop-order
invariant-loop-order l = l.left + named_by l.orders ≡ length l.streams + named_by (drop l.order-index l.orders)
