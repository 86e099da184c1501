-- What an input of parts is, and which of its lines is the first faulty one.
use Rattle.std.specs.Prelude.{◌≡◌, ℕ, ◌+◌, Bool, not, ◌&&◌, nat_eq, IsTrue, List, [], ◌∷◌, ◌++◌}
use Rattle.std.specs.Prelude.{Option, None, Some, IsSome, unwrap_or, codes}
use Rattle.std.specs.List.{starts_with, list_all}
use Rattle.std.specs.Str.{is_utf8}
use Rattle.metric_base.specs.Fronts.{BreaksOffAt}
use Rattle.metric_parts.specs.declared.needs.Needs.{Needs}

-- # content line (profile)
-- A line inside a part: it is UTF-8 and does not begin with `%% `.
abbrev pub is_content : List ℕ → Bool
is_content line = is_utf8 line && not (starts_with nat_eq line (codes "%% "))

-- # contents, printed parts (profile) [Contents, printed]
-- The lines of the four parts without their headers; each part's header and then its contents, in
-- order.
pub record Contents : Type 0 where
  pub catalogue : List (List ℕ)
  pub config : List (List ℕ)
  pub certificate : Option (List (List ℕ))
  pub script : Option (List (List ℕ))

-- a part that may be missing: its header and its lines, or nothing
abbrev pub optional_part : List ℕ → Option (List (List ℕ)) → List (List ℕ)
optional_part header None = []
optional_part header (Some lines) = header ∷ lines

-- the lines of an input before the script's header
abbrev pub before_script : Contents → List (List ℕ)
before_script parts =
    codes "%% catalogue" ∷ (parts.catalogue ++ (codes "%% config"
    ∷ (parts.config ++ optional_part (codes "%% certificate") parts.certificate)))

-- the lines of an input
abbrev pub printed : Contents → List (List ℕ)
printed parts = before_script parts ++ optional_part (codes "%% script") parts.script

-- # input (profile)
-- Lines that are what parts print, and in which the parts that the command needs are there.
pub record IsInput (needs : Needs) (lines : List (List ℕ)) (parts : Contents) : Type 0 where
  pub whole : lines ≡ printed parts
  pub catalogue : IsTrue (list_all is_content parts.catalogue)
  pub config : IsTrue (list_all is_content parts.config)
  pub certificate : IsTrue (list_all is_content (unwrap_or parts.certificate []))
  pub script : IsTrue (list_all is_content (unwrap_or parts.script []))
  pub has_certificate : IsTrue needs.certificate → IsSome parts.certificate
  pub has_script : IsTrue needs.script → IsSome parts.script

-- # first faulty line (profile) [IsSomeInput, IsFirstFault]
-- The line at which lines break off that are to be an input, counted from 1.
pub record IsSomeInput (needs : Needs) (lines : List (List ℕ)) : Type 0 where
  pub parts : Contents
  pub is_input : IsInput needs lines parts

-- The line of this number, counted from 1, is the first with which no input goes on. Where the
-- lines are the beginning of an input and no input, it is the line after the last.
pub record IsFirstFault (needs : Needs) (lines : List (List ℕ)) (number : ℕ) : Type 0 where
  pub place : ℕ
  pub numbered : number ≡ place + 1
  pub breaks_off : BreaksOffAt (IsSomeInput needs) lines place
