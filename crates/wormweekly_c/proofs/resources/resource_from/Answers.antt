-- attributes that were read are a resource, or have a fault
use Rattle.std.proofs.Common.{◌≡◌, ◌≢◌, List, Err, map, ap, subst, ◌∙◌}
use Rattle.metric_contents.specs.declared.attributes.Attr.{Attr}
use Rattle.metric_resource.specs.Resources.{owned_by, resource_of}
use Rattle.metric_resource.specs.declared.fault.ResourceFault.TheVariants.{Memory}
use Rattle.wormweekly_c.proofs.ResourceLaws.{read_resource, refused_resource}
use Rattle.wormweekly_c.proofs.resources.resource_from.Goals as goal

pub returns-in-Ok-new-clause-resource : goal.returns-in-Ok-new-clause-resource
returns-in-Ok-new-clause-resource c =
    cc (read_resource c.args.given.now c.args.texts.now c.in-Ok.attrs.items c.in-Ok.ensures.read, c.in-Ok-new.ensures, c.as_slice.ensures.value)

pub returns-clause-none : goal.returns-clause-none
returns-clause-none c =
    refused_resource c.args.given.now c.args.texts.now c.in-Ok.attrs.items c.in-Err.fault c.in-Ok.ensures.read
    (subst (λ (attrs : List Attr). c.in-Err.fault ≢ Memory → resource_of (map owned_by attrs) ≡ Err c.in-Err.fault) c.as_slice.ensures.value c.in-Err.ensures)
