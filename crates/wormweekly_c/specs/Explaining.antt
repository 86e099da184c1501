-- What a host is told of a recording that is refused for what it says.
use Rattle.std.specs.Prelude.{◌≡◌, ◌⊎◌, ℕ, ℤ, List, [], ◌++◌, codes, Option, Some, None}
use Rattle.metric_text.specs.Lists.{numbered}
use Rattle.metric_lint.specs.Explanations.{Told, explained, On, UnknownInstrument}
use Rattle.metric_contents.specs.Encoding.{Given}
use Rattle.metric_plan.specs.Plans.{PlanValue}
use Rattle.wormweekly_c.specs.Texts.{AnswersText}

-- A text begins so.
pub record BeginsWith (start text : List ℕ) : Type 0 where
  pub words : List ℕ
  pub is : text ≡ start ++ words

-- an instrument that is not there; else the name of the instrument, and words on the mistake
abbrev pub Explains : Told → List ℕ → Type 0
Explains (UnknownInstrument number) text =
    text ≡ numbered (codes "there is no instrument ") number
Explains (On name fault) text = BeginsWith (name ++ codes ": ") text

-- # told refusal (profile) [Explains, AnswersExplained]
-- No words where what a recording says is in order, else the name of its instrument and words on its
-- first mistake.
abbrev pub IsExplanation : Option Told → List ℕ → Type 0
IsExplanation None text = text ≡ []
IsExplanation (Some told) text = Explains told text

-- Such a text is written where there is room for all of it, with its length in either case.
pub record AnswersExplanation (told : Option Told) (before after : List ℕ) (count code : ℕ)
    : Type 0 where
  pub text : List ℕ
  pub is : IsExplanation told text
  pub answer : AnswersText text before after count code

-- attributes, which were read or are none, are explained, unless memory ran out
abbrev pub AnswersExplained : PlanValue → ℕ → Option (List Given) → ℤ → List ℕ → List ℕ → ℕ → ℕ
    → Type 0
AnswersExplained plan instrument None value before after count code = (code ≡ 101) ⊎ (code ≡ 11)
AnswersExplained plan instrument (Some attrs) value before after count code =
    AnswersExplanation (explained plan.facts.contents.instruments instrument attrs value)
    before after count code ⊎ (code ≡ 11)
