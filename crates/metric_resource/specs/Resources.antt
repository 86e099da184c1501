-- The attributes of a resource.
use Rattle.std.specs.Prelude.{ℕ, Bool, false, not, nat_le, ◌||◌, ◌==◌, List, [], ◌∷◌, Result, Ok, length}
use Rattle.std.specs.List.{list_any}
use Rattle.std.specs.Str.{bytes_eq}
use Rattle.metric_names.specs.Values.{value_of}
use Rattle.metric_base.specs.Steps.{◌>>=◌, require}
use Rattle.metric_contents.specs.declared.attributes.Attr.{Attr}
use Rattle.metric_contents.specs.declared.attributes.OwnedAttr.{OwnedAttr}
use Rattle.metric_resource.specs.declared.fault.ResourceFault.{ResourceFault}
use Rattle.metric_resource.specs.declared.fault.ResourceFault.TheVariants.{TooMany, EmptyKey, RepeatedKey}

-- what a borrowed attribute is when it is owned
abbrev pub owned_by : Attr → OwnedAttr
owned_by attribute = record { key = attribute.key.now; value = value_of attribute.value }

-- the attribute is of this key
abbrev pub is_of : List ℕ → OwnedAttr → Bool
is_of key attribute = bytes_eq attribute.key key

-- some key is empty
abbrev pub has_empty_key : List OwnedAttr → Bool
has_empty_key attributes = list_any (λ (attribute : OwnedAttr). length attribute.key == 0) attributes

-- some key stands again later
abbrev pub has_repeated_key : List OwnedAttr → Bool
has_repeated_key [] = false
has_repeated_key (attribute ∷ others) =
    list_any (is_of attribute.key) others || has_repeated_key others

-- # resource (SDK, resource; the limit is profile)
-- At most 64 attributes, none with an empty key, none twice; or the first fault.
unfoldable pub resource_of : List OwnedAttr → Result (List OwnedAttr) ResourceFault
resource_of attributes = do
  _ ← require (nat_le (length attributes) 64) TooMany
  _ ← require (not (has_empty_key attributes)) EmptyKey
  _ ← require (not (has_repeated_key attributes)) RepeatedKey
  Ok attributes
