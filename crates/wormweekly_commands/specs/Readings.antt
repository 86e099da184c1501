-- What is read of the files of a request.
use Rattle.std.specs.Prelude.{◌≡◌, ℕ, List, Option, Some, None, true, IfSome, IsSomeAnd}
use Rattle.std.specs.List.{AllZip}
use Rattle.metric_parts.specs.declared.parts.Parts.{Parts}
use Rattle.metric_command_lines.specs.declared.wormweekly.request.Files.{Files}
use Rattle.wormweekly_commands.specs.declared.parts.Texts.{Texts}

-- The text is what the folder holds at the path, where it knows that.
abbrev pub IsHeld : (List ℕ → Option (List ℕ)) → List ℕ → List ℕ → Type 0
IsHeld held path text = IfSome (held path) (λ known. text ≡ known)

-- The same of a file that the request may lack.
abbrev pub MayBeHeld : (List ℕ → Option (List ℕ)) → Option (List ℕ) → Option (List ℕ) → Type 0
MayBeHeld held None text = text ≡ None
MayBeHeld held (Some path) text = IsSomeAnd text (IsHeld held path)

-- The parts are the texts of two files, and the catalogue may be of format 3.
pub record ArePair (held : List ℕ → Option (List ℕ)) (catalogue config : List ℕ) (parts : Parts)
    : Type 0 where
  pub catalogue_is : IsHeld held catalogue parts.catalogue
  pub opened : parts.opens ≡ true
  pub config_is : IsHeld held config parts.config

-- The old parts are the texts of the two old files, where the request has both.
abbrev pub AreOld : (List ℕ → Option (List ℕ)) → Option (List ℕ) → Option (List ℕ)
    → Option Parts → Type 0
AreOld held (Some catalogue) (Some config) old = IsSomeAnd old (ArePair held catalogue config)
AreOld held catalogue config old = old ≡ None

-- # the texts of a request's files (profile)
-- They are the texts of the files, catalogues of any format, and no part but those is read yet.
pub record AreTexts (held : List ℕ → Option (List ℕ)) (files : Files) (texts : Texts) : Type 0 where
  pub old : AreOld held files.old_catalogue files.old_config texts.old
  pub catalogue : IsHeld held files.catalogue texts.parts.catalogue
  pub opened : texts.parts.opens ≡ true
  pub config : IsHeld held files.config texts.parts.config
  pub certificate : MayBeHeld held files.certificate texts.parts.certificate
  pub accepted : MayBeHeld held files.accepted texts.accepted
  pub script : MayBeHeld held files.script texts.script
  pub queries : AllZip (IsHeld held) files.queries texts.queries
