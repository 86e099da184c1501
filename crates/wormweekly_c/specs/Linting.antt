-- What a host is told of remarks on its texts.
use Rattle.std.specs.Prelude.{◌≡◌, ◌⊎◌, ◌&&◌, ◌-◌, ◌++◌, ℕ, false, List, [], ◌∷◌, codes, if◌then◌else◌, length}
use Rattle.std.specs.Prelude.{min, nat_le, take, Option}
use Rattle.std.specs.List.{AllZip, concat}
use Rattle.std.specs.Str.{is_utf8}
use Rattle.metric_text.specs.Lists.{numbered}
use Rattle.metric_lint.specs.Remarks.{AreRemarks}
use Rattle.metric_lint.specs.declared.position.Position.{Position}
use Rattle.metric_lint.specs.declared.remark.Remark.{Remark}
use Rattle.metric_messages.specs.declared.sources.Pair.{Pair}
use Rattle.metric_messages.specs.Places.{RemarkStands}
use Rattle.wormweekly_c.specs.Pairs.{IsPair}
use Rattle.wormweekly_c.specs.Opening.{HasFault}
use Rattle.wormweekly_c.specs.Telling.{HasFront, Tells}
use Rattle.wormweekly_c.specs.Texts.{AnswersText}

-- a remark on what was read stands at this place of some file
abbrev pub StandsIn : Pair → Remark → List ℕ → Option Position → Type 0
StandsIn pair remark file position = RemarkStands pair remark position

-- A line with some words on a remark, with the file and the place in which it stands.
pub record IsRemarkLine (pair : Pair) (remark : Remark) (line : List ℕ) : Type 0 where
  pub text : List ℕ
  pub tells : Tells (StandsIn pair remark) text
  pub is : line ≡ text ++ 10 ∷ []

-- One is written last.
pub record PushesLine (pair : Pair) (remark : Remark) (before after : List ℕ) : Type 0 where
  pub line : List ℕ
  pub is_line : IsRemarkLine pair remark line
  pub is : after ≡ before ++ line

-- One for each of these remarks is written last, in order.
pub record PushesLines (pair : Pair) (remarks : List Remark) (before after : List ℕ) : Type 0 where
  pub lines : List (List ℕ)
  pub each : AllZip (IsRemarkLine pair) remarks lines
  pub is : after ≡ before ++ concat lines

-- how many more remarks there are than the hundred that are told
abbrev pub more_text : ℕ → List ℕ
more_text count =
    if nat_le count 100 then []
    else numbered (codes "and ") (count - 100) ++ codes " more remarks\n"

-- The first hundred remarks on what was read, and how many more there are.
pub record TellsPair (pair : Pair) (text : List ℕ) : Type 0 where
  pub remarks : List Remark
  pub are : AreRemarks pair.catalogue.now pair.config.now remarks
  pub told : List ℕ
  pub lines : PushesLines pair (take (min (length remarks) 100) remarks) [] told
  pub is : text ≡ told ++ more_text (length remarks)

-- # told remarks (profile) [TellsRemarks, IsRemarkLine]
-- A line for each of the first hundred remarks on the two texts, and how many more there are.
pub record TellsRemarks (catalogue config text : List ℕ) : Type 0 where
  pub pair : Pair
  pub declared : IsPair catalogue config pair
  pub tells : TellsPair pair text

-- Such a text is written where there is room for all of it, with its length in either case.
pub record AnswersRemarks (catalogue config before after : List ℕ) (count code : ℕ) : Type 0 where
  pub text : List ℕ
  pub tells : TellsRemarks catalogue config text
  pub answer : AnswersText text before after count code

-- The first fault of the texts is written as far as there is room.
pub record AnswersFault (catalogue config before after : List ℕ) (count code : ℕ) : Type 0 where
  pub is : code ≡ 103
  pub told : HasFront (HasFault catalogue config) before after count

-- the remarks, or the first fault of the texts, or that they are no texts, unless memory ran out
abbrev pub AnswersLint : List ℕ → List ℕ → List ℕ → List ℕ → ℕ → ℕ → Type 0
AnswersLint catalogue config before after count code =
    AnswersRemarks catalogue config before after count code
    ⊎ (AnswersFault catalogue config before after count code
    ⊎ (((code ≡ 101) × ((is_utf8 catalogue && is_utf8 config) ≡ false)) ⊎ (code ≡ 11)))
