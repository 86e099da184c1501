-- What a key takes of attributes that stand in the order of their keys.
use Rattle.std.specs.Prelude.{◌≡◌, ◌≢◌, ℕ, List, [], ◌∷◌, Option, Some, None, IsSomeAnd}
use Rattle.metric_contents.specs.declared.contents.Key.{Key}
use Rattle.metric_contents.specs.Encoding.{Given, entry_with}
use Rattle.metric_contents.specs.InOrder.{entry_in_order}
use Rattle.metric_names.specs.declared.value.AttrValue.{AttrValue}
use Rattle.wormweekly_c.specs.Attributes.{attributes_from, text_first, value_first}
use Rattle.wormweekly_c.specs.declared.attributes.Attribute.{Attribute}

-- The text of so many bytes that stands first, where it is one, is not this name.
abbrev pub IsOtherName : List ℕ → Option (List ℕ × List ℕ) → Type 0
IsOtherName name None = Unit {0}
IsOtherName name (Some first) = first.0 ≢ name

-- The first attribute is of another name.
abbrev pub IsNotFirst : List ℕ → List ℕ → List Attribute → Type 0
IsNotFirst name texts [] = Unit {0}
IsNotFirst name texts (own ∷ others) = IsOtherName name (text_first own.key texts)

-- The value that stands first has this entry, and so many texts are left.
pub record IsFirstEntry (key : Key) (entry : ℕ) (rest : List ℕ) (first : AttrValue × List ℕ)
    : Type 0 where
  pub valued : entry_with key first.0 ≡ Some entry
  pub left : first.1 ≡ rest

abbrev pub TakesValue : Key → List ℕ → Attribute → ℕ → List ℕ → Type 0
TakesValue key texts own entry rest =
    IsSomeAnd (value_first own texts) (IsFirstEntry key entry rest)

-- The attributes are these, before which a key takes this entry.
abbrev pub IsBefore : Key → ℕ → List Given → List Given → Type 0
IsBefore key entry attrs all = entry_in_order key all ≡ Some (entry, attrs)

-- Where what is left are attributes, all are attributes, of which the key takes this entry.
pub record TakesEntry (key : Key) (texts : List ℕ) (given : List Attribute) (entry : ℕ)
    (others : List Attribute) (rest : List ℕ) : Type 0 where
  pub all : (attrs : List Given) → attributes_from others rest ≡ Some attrs
      → IsSomeAnd (attributes_from given texts) (IsBefore key entry attrs)
