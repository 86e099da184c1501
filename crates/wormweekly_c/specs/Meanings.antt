-- What a host is told of what an instrument means that it was made for.
use Rattle.std.specs.Prelude.{◌≡◌, ◌⊎◌, ℕ, ◌==◌, max, true, List, [], ◌∷◌, ◌++◌, codes, map, find}
use Rattle.std.specs.Prelude.{Option, Some, None, option_and_then, option_map, is_some, slice_get}
use Rattle.metric_contents.specs.Encoding.{Given}
use Rattle.metric_contents.specs.declared.contents.Contents.{Contents}
use Rattle.metric_contents.specs.declared.contents.Kind.{Kind}
use Rattle.metric_contents.specs.declared.contents.Kind.TheVariants.{Counter, UpDownCounter}
use Rattle.metric_contents.specs.declared.contents.Kind.TheVariants.{Histogram, Gauge}
use Rattle.metric_meaning.specs.Meanings.{Means, Shape, asked_keys}
use Rattle.metric_names.specs.declared.value.AttrValue.TheVariants.{Text}
use Rattle.wormweekly_c.specs.Telling.{HasFront}
use Rattle.wormweekly_c.specs.Walking.{kind_number}

-- the kind of a number
abbrev pub kind_of : ℕ → Option Kind
kind_of number =
    find (λ (kind : Kind). kind_number kind == number)
    (Counter ∷ UpDownCounter ∷ Histogram ∷ Gauge ∷ [])

-- a text without a key
abbrev pub bare_text : Given → Option (List ℕ)
bare_text ([], Text text) = Some text
bare_text other = None

-- the text that stands first, and what follows
abbrev pub front_text : List Given → Option (List ℕ × List Given)
front_text [] = None
front_text (given ∷ others) = option_map (λ text. (text, others)) (bare_text given)

-- an instrument that is given flat: the names of its meter and its own, its unit, the values of
-- its keys; none where the three texts are not there, or where there is no such kind
abbrev pub shape_of : ℕ → ℕ → List Given → Option Shape
shape_of kind optional given =
    option_and_then (λ (own : Kind). option_and_then (λ (meter : List ℕ × List Given).
    option_and_then (λ (name : List ℕ × List Given). option_map (λ (unit : List ℕ × List Given).
    record {
      meter = meter.0;
      name = name.0;
      kind = own;
      unit = unit.0;
      keys = asked_keys unit.1;
      optional = optional;
    }) (front_text name.1)) (front_text meter.1)) (front_text given)) (kind_of kind)

-- a byte in a line: a blank for a control character
abbrev pub in_line : ℕ → ℕ
in_line byte = max byte 32

-- A line names the instrument that was asked for, and says more.
pub record TellsOther (shape : Shape) (line : List ℕ) : Type 0 where
  pub words : List ℕ
  pub is : line ≡ map in_line
      ((shape.meter ++ (codes "/" ++ (shape.name ++ codes ": "))) ++ words)

-- The instrument is there, and means something else, which is told.
pub record IsOther (contents : Contents) (number : ℕ) (shape : Shape) (before after : List ℕ)
    (count : ℕ) : Type 0 where
  pub there : is_some (slice_get contents.instruments number) ≡ true
  pub other : Means contents number shape → ⊥
  pub told : HasFront (TellsOther shape) before after count

-- the instrument means that, there is none, or it means something else
abbrev pub AnswersMeaning : Contents → ℕ → Shape → List ℕ → List ℕ → ℕ → ℕ → Type 0
AnswersMeaning contents number shape before after count code =
    ((code ≡ 0) × Means contents number shape)
    ⊎ (((code ≡ 106) × (slice_get contents.instruments number ≡ None))
    ⊎ ((code ≡ 103) × IsOther contents number shape before after count))

-- the same of what was read, or that it is no such thing, unless memory ran out
abbrev pub AnswersExpected : Contents → ℕ → Option Shape → List ℕ → List ℕ → ℕ → ℕ → Type 0
AnswersExpected contents number None before after count code = (code ≡ 101) ⊎ (code ≡ 11)
AnswersExpected contents number (Some shape) before after count code =
    AnswersMeaning contents number shape before after count code ⊎ (code ≡ 11)
