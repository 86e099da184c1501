-- what sound rows leave is within the product
use Rattle.metric_bounds.specs.SetLaws.{sets_within_product}
use Rattle.metric_bounds.proofs.products.product.Goals as goal

pub returns-clause-most : goal.returns-clause-most
returns-clause-most c = λ flags. rw c.product_of.ensures (sets_within_product c.args.catalogue.now c.args.stream.now c.instruments.ensures.sound flags)
