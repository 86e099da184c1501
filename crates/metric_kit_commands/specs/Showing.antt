-- What showing a config makes of the bytes of its input.
use Rattle.std.specs.Prelude.{◌≡◌, ◌++◌, ℕ, false, List}
use Rattle.metric_text.specs.Lines.{lines_of}
use Rattle.metric_parts.specs.Input.{IsFirstFault as IsFaultyLine}
use Rattle.metric_parts.specs.Kept.{IsRead}
use Rattle.metric_parts.specs.declared.needs.Needs.{Needs}
use Rattle.metric_parts.specs.declared.parts.Parts.{Parts}
use Rattle.metric_contents.specs.declared.contents.Contents.{Contents}
use Rattle.metric_views.specs.declared.config.Setup.{Setup}
use Rattle.metric_views.specs.declared.stream.Stream.{Stream}
use Rattle.metric_resolve.specs.declared.warning.Warning.{Warning}
use Rattle.metric_resolve.specs.Resolved.{streams_of}
use Rattle.metric_resolve.specs.Warnings.{warnings_of}
use Rattle.metric_lines.specs.Streams.{shown_text, warning_text}
use Rattle.metric_kit_commands.specs.declared.fault.KitFault.{KitFault}
use Rattle.metric_kit_commands.specs.declared.fault.KitFault.TheVariants.{
  Read,
  Input,
  Catalogue,
  Config as BadConfig,
  Certificate as BadCertificate,
  Check,
  Make,
  Audit,
  Finish,
  Write,
  Memory,
}
use Rattle.metric_kit_commands.specs.Commands.{IsAnswerTo}
use Rattle.metric_kit_commands.specs.Declarations.{IsDeclared, IsDeclaredFault, IsMisdeclared}
use Rattle.metric_kit_commands.specs.Written.{parts_text}

-- the catalogue and the config alone
abbrev pub show_needs : Needs
show_needs = record { certificate = false; script = false }

-- # listing (profile)
-- The lines of the streams, numbered from 0, and those of the warnings.
unfoldable pub listing_text : Contents → Setup → List Stream → List Warning → List ℕ
listing_text contents config streams warnings =
    parts_text (shown_text contents config) streams
    ++ parts_text (λ _ warning. warning_text warning) warnings

-- The lines of the streams that the parts declare, and those of the warnings.
pub record IsListed (read : Parts) (text : List ℕ) : Type 0 where
  pub contents : Contents
  pub config : Setup
  pub declared : IsDeclared read contents config
  pub written : text ≡ listing_text contents config (streams_of contents config)
      (warnings_of contents config)

-- # shown text of an input (profile)
-- The listing of the streams and warnings that its catalogue and its config give.
abbrev pub IsShown : List ℕ → List ℕ → Type 0
IsShown = IsAnswerTo show_needs IsListed

-- # first fault of a shown input (profile)
-- Of its parts, then of its catalogue, then of its config.
abbrev pub IsFirstShowFault : List ℕ → KitFault → Type 0
IsFirstShowFault input (Input line) = IsFaultyLine show_needs (lines_of input) line
IsFirstShowFault input (Catalogue fault) =
    IsMisdeclared show_needs input (IsDeclaredFault (Catalogue fault))
IsFirstShowFault input (BadConfig fault) =
    IsMisdeclared show_needs input (IsDeclaredFault (BadConfig fault))
IsFirstShowFault input Memory = Unit {0}
IsFirstShowFault input _ = ⊥

-- A fault of the parts is the first of the input.
pub show_refused : (input : List ℕ) (read : Parts) (fault : KitFault)
    → IsRead show_needs (lines_of input) read → IsDeclaredFault fault read
    → IsFirstShowFault input fault
show_refused input read Read is_read found = found
show_refused input read (Input line) is_read found = absurd found
show_refused input read (Catalogue fault) is_read found =
    record { read = read; is_read = is_read; first = found }
show_refused input read (BadConfig fault) is_read found =
    record { read = read; is_read = is_read; first = found }
show_refused input read (BadCertificate fault) is_read found = found
show_refused input read (Check fault) is_read found = found
show_refused input read (Make fault) is_read found = found
show_refused input read (Audit fault) is_read found = found
show_refused input read (Finish fault) is_read found = found
show_refused input read Write is_read found = found
show_refused input read Memory is_read found = tt
