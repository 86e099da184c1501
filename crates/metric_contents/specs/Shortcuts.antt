-- What shortcuts to numbers give.
use Rattle.std.specs.Prelude.{◌≡◌, ℕ, List, Option, Some, Contains, IfSome}
use Rattle.metric_names.specs.declared.value.AttrValue.{AttrValue}
use Rattle.metric_names.specs.declared.value.AttrValue.TheVariants.{Text}
use Rattle.metric_contents.specs.declared.shortcuts.Numbered.{Numbered}
use Rattle.metric_contents.specs.Packed.{text_of}
use Rattle.metric_contents.specs.Places.{place}

-- A slot is empty, or the number in it is the place of its text among the values.
abbrev pub IsRight : List AttrValue → Option Numbered → Type 0
IsRight values slot =
    IfSome slot (λ held. place values (Text (text_of held.text)) ≡ Some held.number)

-- Some slot has the text and this number.
abbrev pub Leads : List (Option Numbered) → List ℕ → ℕ → Type 0
Leads slots text number =
    (held : Numbered) × Contains slots (Some held) × (text_of held.text ≡ text)
    × (held.number ≡ number)
