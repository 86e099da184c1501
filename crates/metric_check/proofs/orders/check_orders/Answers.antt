-- orders that pass are right, and right orders pass
use Rattle.std.proofs.Common.{refl}
use Rattle.metric_check.proofs.OrderLaws.{orders_pass, orders_right}
use Rattle.metric_check.proofs.orders.check_orders.Goals as goal

pub returns-then-are_orders : goal.returns-then-are_orders
returns-then-are_orders c = orders_right c.args.catalogue.now c.args.config.now c.args.streams.now c.args.orders.now (c.are_orders.ensures.0 c.if-are_orders.true)

pub returns-else-are_orders : goal.returns-else-are_orders
returns-else-are_orders c = (
  λ right.
      let passes = c.are_orders.ensures.1 (orders_pass c.args.catalogue.now c.args.config.now c.args.streams.now c.args.orders.now c.requires right) in
      let fails = c.if-are_orders.false in
      cc,
  refl,
)
