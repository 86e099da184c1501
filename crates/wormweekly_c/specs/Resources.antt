-- The resource whose attributes a host gives.
use Rattle.std.specs.Prelude.{◌≡◌, ℕ, List, Option, Some, None, Result, Ok, Err, map, option_map}
use Rattle.metric_contents.specs.Encoding.{Given}
use Rattle.metric_contents.specs.declared.attributes.OwnedAttr.{OwnedAttr}
use Rattle.metric_resource.specs.Resources.{resource_of}
use Rattle.metric_resource.specs.declared.fault.ResourceFault.{ResourceFault}
use Rattle.metric_resource.specs.declared.fault.ResourceFault.TheVariants.{TooMany, EmptyKey, RepeatedKey, Memory}
use Rattle.wormweekly_c.specs.Attributes.{attributes_from}
use Rattle.wormweekly_c.specs.declared.attributes.Attribute.{Attribute}
use Rattle.wormweekly_c.specs.declared.resources.NoResource.{NoResource}
use Rattle.wormweekly_c.specs.declared.resources.NoResource.TheVariants.{NoText, Refused}

-- an attribute as a resource has it
abbrev pub owned_of : Given → OwnedAttr
owned_of given = record { key = given.0; value = given.1 }

-- # resource as a host gives it (Resource SDK) [resource_from, number_of_fault]
-- The resource of the attributes that are spelled, or its first fault with its number; none where
-- they are not read.
abbrev pub resource_from : List Attribute → List ℕ → Option (Result (List OwnedAttr) ResourceFault)
resource_from given texts =
    option_map (λ (attrs : List Given). resource_of (map owned_of attrs))
    (attributes_from given texts)

-- the number of a fault
abbrev pub number_of_fault : ResourceFault → ℕ
number_of_fault TooMany = 107
number_of_fault EmptyKey = 108
number_of_fault RepeatedKey = 3
number_of_fault Memory = 11

-- attributes are no resource for this: they are not read, or have this first fault; or memory ran
-- out
abbrev pub IsWhyNone : Option (Result (List OwnedAttr) ResourceFault) → NoResource → Type 0
IsWhyNone found (Refused Memory) = Unit {0}
IsWhyNone None NoText = Unit {0}
IsWhyNone (Some read) NoText = ⊥
IsWhyNone None (Refused fault) = ⊥
IsWhyNone (Some read) (Refused fault) = read ≡ Err fault

-- the number that tells why
abbrev pub code_of_none : NoResource → ℕ
code_of_none NoText = 101
code_of_none (Refused fault) = number_of_fault fault
