-- What a host is told of a fault of its texts, and of remarks on them.
use Rattle.std.specs.Prelude.{◌≡◌, ℕ, List, [], ◌++◌, codes, Option, Some, None}
use Rattle.metric_text.specs.Lists.{numbered}
use Rattle.metric_lint.specs.declared.position.Position.{Position}
use Rattle.metric_messages.specs.declared.sources.Pair.{Pair}
use Rattle.metric_messages.specs.Marks.{StandsInCatalogue, StandsInConfig}
use Rattle.metric_messages.specs.Places.{PartStands}
use Rattle.metric_make.specs.declared.fault.MakeFault.{MakeFault}
use Rattle.metric_setup.specs.declared.fault.SetupFault.{SetupFault}
use Rattle.metric_setup.specs.declared.fault.SetupFault.TheVariants as faults
use Rattle.wormweekly_c.specs.Pairs.{IsPair}
use Rattle.wormweekly_c.specs.Texts.{IsFront}

-- a place behind the name of its file: its line and its column, each behind a colon; nothing where
-- it is not known
abbrev pub place_text : Option Position → List ℕ
place_text None = []
place_text (Some place) = numbered (codes ":") place.line ++ numbered (codes ":") place.column

-- a file, the place in it, and words
abbrev pub told_at : List ℕ → Option Position → List ℕ → List ℕ
told_at file position words = file ++ (place_text position ++ (codes ": " ++ words))

-- Some words with a file and a place in which such a thing stands.
pub record Tells (Stands : List ℕ → Option Position → Type 0) (text : List ℕ) : Type 0 where
  pub file : List ℕ
  pub position : Option Position
  pub stands : Stands file position
  pub words : List ℕ
  pub is : text ≡ told_at file position words

-- it stands in the file of this name
abbrev pub InFile : List ℕ → (Option Position → Type 0) → List ℕ → Option Position → Type 0
InFile name Stands file position = (file ≡ name) × Stands position

-- The part of safety that fails first of what the texts are stands there.
pub record IsUnsafeAt (catalogue config : List ℕ) (fault : MakeFault) (file : List ℕ)
    (position : Option Position) : Type 0 where
  pub pair : Pair
  pub is : IsPair catalogue config pair
  pub stands : PartStands pair fault position

-- # told fault (profile) [TellsFault, Tells]
-- The file that the fault is of, the place of its field where that is found, and words.
abbrev pub TellsFault : List ℕ → List ℕ → SetupFault → List ℕ → Type 0
TellsFault catalogue config (faults.Catalogue fault) text =
    Tells (InFile (codes "catalogue") (StandsInCatalogue catalogue fault)) text
TellsFault catalogue config (faults.Config fault) text =
    Tells (InFile (codes "config") (StandsInConfig config fault)) text
TellsFault catalogue config (faults.Unsafe fault) text =
    Tells (IsUnsafeAt catalogue config fault) text
TellsFault catalogue config (faults.Certificate fault) text =
    Tells (λ file position. file ≡ codes "certificate") text
TellsFault catalogue config (faults.Check fault) text =
    Tells (InFile (codes "certificate") (λ position. position ≡ None)) text
TellsFault catalogue config faults.Memory text = ⊥

-- A text of which this is true stands in a buffer as far as there is room, with its whole length
-- beside it.
pub record HasFront (IsTold : List ℕ → Type 0) (before after : List ℕ) (count : ℕ) : Type 0 where
  pub text : List ℕ
  pub told : IsTold text
  pub front : IsFront text before after count
