-- a product within the limit fits
use Rattle.std.proofs.Common.{◌≤◌, arith}
use Rattle.metric_bounds.specs.Sets.{product_of, sets_of}
use Rattle.metric_make.proofs.Entries.{product_fits}
use Rattle.metric_make.proofs.streams.entry_of.Goals as goal

pub returns-then-product-from-clause-found : goal.returns-then-product-from-clause-found
returns-then-product-from-clause-found c =
    let few : sets_of c.args.catalogue.now c.args.stream.now ≤ product_of c.args.catalogue.now c.args.stream.now =
    omega (arith, c.product-product.ensures.most c.requires.flags, c.product-product.ensures.product) in
    product_fits c.args.catalogue.now c.args.stream.now few (omega arith)
