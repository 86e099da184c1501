use Rattle.std.proofs.Common.{◌≡◌, ◌+◌, ◌*◌, ◌<◌, ◌^◌, arith, length}
use Rattle.std.proofs.lemmas.Grind.{common_steps}
use Rattle.metric_bounds.proofs.Powers.{empty_product, longer_product, product_fits}
use Rattle.metric_bounds.proofs.products.+product_over.Goals as goal

pub returns-in_default-clause-bounded : goal.returns-in_default-clause-bounded
returns-in_default-clause-bounded t c = empty_product (length c.args.keys.now)

pub overflow_mul-result : goal.overflow_mul-result
overflow_mul-result t c =
    let longer : length c.args.keys.now ≡ length c.in-Some-split_first.keys.now + 1 = grind (arith, common_steps) in
    let bounded = longer_product c.factor_of.result c.product_over.result _ _ c.factor_of.ensures.bounded c.product_over.ensures.bounded longer in
    let fits : c.factor_of.result * c.product_over.result < 2 ^ 128 = product_fits _ (length c.args.keys.now) bounded c.requires in
    omega arith
