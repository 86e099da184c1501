-- Attributes that were read, as a resource has them.
use Rattle.std.proofs.Common.{◌≡◌, ◌≢◌, ℕ, List, [], ◌∷◌, Option, Some, Result, Ok, Err, map, refl, sym, ap, subst, ◌∙◌}
use Rattle.std.specs.Prelude.{option_map}
use Rattle.metric_contents.specs.Attributes.{given_by}
use Rattle.metric_contents.specs.Encoding.{Given}
use Rattle.metric_contents.specs.declared.attributes.Attr.{Attr}
use Rattle.metric_contents.specs.declared.attributes.OwnedAttr.{OwnedAttr}
use Rattle.metric_resource.specs.Resources.{owned_by, resource_of}
use Rattle.metric_resource.specs.declared.fault.ResourceFault.{ResourceFault}
use Rattle.metric_resource.specs.declared.fault.ResourceFault.TheVariants.{TooMany, EmptyKey, RepeatedKey, Memory}
use Rattle.wormweekly_c.specs.Attributes.{attributes_from}
use Rattle.wormweekly_c.specs.Resources.{IsWhyNone, owned_of, resource_from}
use Rattle.wormweekly_c.specs.declared.attributes.Attribute.{Attribute}
use Rattle.wormweekly_c.specs.declared.resources.NoResource.TheVariants.{Refused}

owned_given : (attrs : List Attr) → map owned_of (map given_by attrs) ≡ map owned_by attrs
owned_given [] = refl
owned_given (attr ∷ attrs) = ap (λ (rest : List OwnedAttr). owned_by attr ∷ rest) (owned_given attrs)

-- the resource of attributes that were read
pub read_resource : (given : List Attribute) (texts : List ℕ) (attrs : List Attr)
    → attributes_from given texts ≡ Some (map given_by attrs) → resource_from given texts ≡ Some (resource_of (map owned_by attrs))
read_resource given texts attrs read =
    ap (λ (all : Option (List Given)). option_map (λ (own : List Given). resource_of (map owned_of own)) all) read
    ∙ ap (λ (own : List OwnedAttr). Some (resource_of own)) (owned_given attrs)

refused_for : (read : Result (List OwnedAttr) ResourceFault) (fault : ResourceFault) → (fault ≢ Memory → read ≡ Err fault) → IsWhyNone (Some read) (Refused fault)
refused_for read TooMany e = e (λ (w : TooMany ≡ Memory). cc)
refused_for read EmptyKey e = e (λ (w : EmptyKey ≡ Memory). cc)
refused_for read RepeatedKey e = e (λ (w : RepeatedKey ≡ Memory). cc)
refused_for read Memory e = tt

-- the fault for which attributes that were read are no resource
pub refused_resource : (given : List Attribute) (texts : List ℕ) (attrs : List Attr) (fault : ResourceFault)
    → attributes_from given texts ≡ Some (map given_by attrs) → (fault ≢ Memory → resource_of (map owned_by attrs) ≡ Err fault)
    → IsWhyNone (resource_from given texts) (Refused fault)
refused_resource given texts attrs fault read e =
    subst (λ (found : Option (Result (List OwnedAttr) ResourceFault)). IsWhyNone found (Refused fault)) (sym (read_resource given texts attrs read))
    (refused_for (resource_of (map owned_by attrs)) fault e)
