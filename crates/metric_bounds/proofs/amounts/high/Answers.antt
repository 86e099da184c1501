-- the greatest sum
use Rattle.std.proofs.Common.{◌≡◌, ℤ, pos, ◌*ℤ◌, rules, ap, ◌∙◌}
use Rattle.std.specs.Int.{int_max}
use Rattle.std.proofs.lemmas.Int.{ints}
use Rattle.metric_bounds.proofs.Extremes.{extreme_fits, extreme_is}
use Rattle.metric_bounds.proofs.amounts.high.Goals as goal

pub overflow_mul-result : goal.overflow_mul-result
overflow_mul-result c = extreme_fits c.args.total _ c.from.result c.from-2.result c.from.ensures c.from-2.ensures c.ranges.total c.from.type_inv c.from-2.type_inv

pub returns : goal.returns
returns c =
    let greatest : c.from-2.result ≡ int_max c.args.hi (pos 0) = search (ints, rules) in
    extreme_is c.args.total _ c.from.result c.from-2.result c.from.ensures c.from-2.ensures c.ranges.total c.from.type_inv c.from-2.type_inv
    ∙ ap (λ (z : ℤ). pos c.args.total *ℤ z) greatest
