-- where neighbours rise, all do
use Rattle.std.proofs.Common.{refl, arith}
use Rattle.metric_check.proofs.OrderLaws.{all_rise}
use Rattle.metric_check.proofs.orders.are_rising.Goals as goal

pub returns : goal.returns
returns c = (
  λ true. all_rise c.args.catalogue.now c.args.streams.now c.args.numbers.now (λ k within. c.loop-place.invariant k (omega arith)),
  λ all. refl,
)
