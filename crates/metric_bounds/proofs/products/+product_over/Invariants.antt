use Rattle.std.proofs.Common.{length}
use Rattle.metric_bounds.proofs.products.+product_over.Given as goal

abbrev pub decreases-product_over : goal.decreases-product_over
decreases-product_over l = length l.kept.now
