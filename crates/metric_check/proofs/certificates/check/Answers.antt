-- where no fault is found the certificate is valid, and the streams are safe; where it is valid, it fails only when
-- out of memory
use Rattle.std.proofs.Common.{Bool, List, sym, subst, rules}
use Rattle.metric_bounds.specs.Safe.{AreSafe}
use Rattle.metric_views.specs.declared.stream.Stream.{Stream}
use Rattle.metric_cert.specs.Valid.{IsValid}
use Rattle.metric_plan.specs.Plans.{ProductsFit}
use Rattle.metric_resolve.specs.Resolved.{streams_of}
use Rattle.metric_check.specs.Products.{by_product_of}
use Rattle.metric_check.proofs.Products.{products_within}
use Rattle.metric_check.proofs.Safety.{valid_is_safe}
use Rattle.metric_check.proofs.Validity.{finds_nothing_where_valid, memory_alone, on_ok}
use Rattle.metric_check.proofs.certificates.check.Goals as goal

pub certified-requires-clause-safe : goal.certified-requires-clause-safe
certified-requires-clause-safe c =
    let contents = c.args.catalogue in
    let config = c.args.config in
    let certificate = c.args.certificate.now in
    subst (λ (ss : List Stream). AreSafe contents ss) (sym c.in-Ok.ensures.streams)
    (valid_is_safe contents config certificate c.meters.ensures.sound ((finds_nothing_where_valid contents config certificate).0 c.in-Ok.ensures.found))

pub certified-requires-clause-products : goal.certified-requires-clause-products
certified-requires-clause-products c =
    let contents = c.args.catalogue in
    let config = c.args.config in
    let certificate = c.args.certificate.now in
    let valid = (finds_nothing_where_valid contents config certificate).0 c.in-Ok.ensures.found in
    subst (λ (flags : List Bool). ProductsFit contents flags c.in-Ok.checked.streams) (sym c.in-Ok.ensures.by_product)
    (subst (ProductsFit contents (by_product_of certificate)) (sym c.in-Ok.ensures.streams)
    (products_within contents (streams_of contents config) certificate.streams valid.streams))

pub returns-in-Ok-clause-valid : goal.returns-in-Ok-clause-valid
returns-in-Ok-clause-valid c =
    let contents = c.args.catalogue in
    let config = c.args.config in
    let certificate = c.args.certificate.now in
    on_ok c.certified.result (IsValid contents config certificate) ((finds_nothing_where_valid contents config certificate).0 c.in-Ok.ensures.found)

pub returns-in-Err-clause-memory : goal.returns-in-Err-clause-memory
returns-in-Err-clause-memory c =
    memory_alone c.args.catalogue c.args.config c.args.certificate.now c.in-Err.fault c.in-Err.ensures.found

pub returns-in-Err-clause-fault : goal.returns-in-Err-clause-fault
returns-in-Err-clause-fault c = search rules
