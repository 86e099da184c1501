-- the orders so far are of own streams that rise
use Rattle.std.proofs.Common.{◌≡◌, ◌<◌, ℕ, Some, slice_get}
use Rattle.metric_cert.specs.declared.order.ReaderOrder.{ReaderOrder}
use Rattle.metric_check.specs.Rising.{IsOwnOrder}
use Rattle.metric_check.proofs.orders.are_own_orders.Given as goal

abbrev pub invariant-loop-reader : goal.invariant-loop-reader
invariant-loop-reader l =
    (k : ℕ) (order : ReaderOrder) → k < l.reader → slice_get l.orders k ≡ Some order → IsOwnOrder l.catalogue l.streams k order
