-- What making a certificate makes of the bytes of its input.
use Rattle.std.specs.Prelude.{◌≡◌, ℕ, List, Ok}
use Rattle.metric_text.specs.Lines.{lines_of}
use Rattle.metric_parts.specs.Input.{IsFirstFault as IsFaultyLine}
use Rattle.metric_parts.specs.Kept.{IsRead}
use Rattle.metric_parts.specs.declared.parts.Parts.{Parts}
use Rattle.metric_contents.specs.declared.contents.Contents.{Contents}
use Rattle.metric_views.specs.declared.config.Setup.{Setup}
use Rattle.metric_cert.specs.declared.claims.Claims.{Claims as Certificate}
use Rattle.metric_make.specs.declared.fault.MakeFault.{MakeFault}
use Rattle.metric_cert.specs.Certificates.{certificate_from}
use Rattle.metric_setup.specs.Setups.{Certifies, IsUnsafe, IsUnsafeSetup}
use Rattle.metric_kit_commands.specs.declared.fault.KitFault.{KitFault}
use Rattle.metric_kit_commands.specs.declared.fault.KitFault.TheVariants.{
  Read,
  Input,
  Catalogue,
  Config as BadConfig,
  Certificate as BadCertificate,
  Check,
  Make,
  Audit,
  Finish,
  Write,
  Memory,
}
use Rattle.metric_kit_commands.specs.Commands.{IsAnswerTo}
use Rattle.metric_kit_commands.specs.Declarations.{contents_in, IsDeclared, IsDeclaredFault, IsMisdeclared}
use Rattle.metric_kit_commands.specs.Showing.{show_needs}

-- The fault is the first part of safety that fails, unless memory ran out.
abbrev pub FailsToMake : KitFault → Contents → Setup → Type 0
FailsToMake (Make fault) contents config = IsUnsafe contents config fault
FailsToMake Memory contents config = Unit {0}
FailsToMake _ contents config = ⊥

-- A text that is read as the certificate for a catalogue and a config.
pub record IsTextFor (contents : Contents) (config : Setup) (text : List ℕ) : Type 0 where
  pub certificate : Certificate
  pub made : Certifies contents config certificate
  pub reads : certificate_from text ≡ Ok certificate

-- A text that is read as the certificate for what the parts declare.
pub record IsCertified (read : Parts) (text : List ℕ) : Type 0 where
  pub contents : Contents
  pub config : Setup
  pub declared : IsDeclared read contents config
  pub written : IsTextFor contents config text

-- # certificate of an input (profile) [IsCertificateText, IsTextFor]
-- A text that is read as the certificate made for what the parts declare.
abbrev pub IsCertificateText : List ℕ → List ℕ → Type 0
IsCertificateText = IsAnswerTo show_needs IsCertified

-- What the parts declare is right, and not safe.
abbrev pub IsRefusedMake : Parts → MakeFault → Type 0
IsRefusedMake read = IsUnsafeSetup (contents_in read) read.config

-- The fault is the first of the catalogue, the config and their safety.
abbrev pub IsMakeFault : KitFault → Parts → Type 0
IsMakeFault (Make fault) read = IsRefusedMake read fault
IsMakeFault fault read = IsDeclaredFault fault read

-- The fault is the first that the input has.
abbrev pub IsFirstMakeFault : List ℕ → KitFault → Type 0
IsFirstMakeFault input (Input line) = IsFaultyLine show_needs (lines_of input) line
IsFirstMakeFault input (Catalogue fault) =
    IsMisdeclared show_needs input (IsMakeFault (Catalogue fault))
IsFirstMakeFault input (BadConfig fault) =
    IsMisdeclared show_needs input (IsMakeFault (BadConfig fault))
IsFirstMakeFault input (Make fault) = IsMisdeclared show_needs input (IsMakeFault (Make fault))
IsFirstMakeFault input Memory = Unit {0}
IsFirstMakeFault input _ = ⊥

-- A fault of the parts is the first of the input.
pub make_refused : (input : List ℕ) (read : Parts) (fault : KitFault)
    → IsRead show_needs (lines_of input) read → IsMakeFault fault read
    → IsFirstMakeFault input fault
make_refused input read Read is_read found = found
make_refused input read (Input line) is_read found = absurd found
make_refused input read (Catalogue fault) is_read found =
    record { read = read; is_read = is_read; first = found }
make_refused input read (BadConfig fault) is_read found =
    record { read = read; is_read = is_read; first = found }
make_refused input read (BadCertificate fault) is_read found = found
make_refused input read (Check fault) is_read found = found
make_refused input read (Make fault) is_read found =
    record { read = read; is_read = is_read; first = found }
make_refused input read (Audit fault) is_read found = found
make_refused input read (Finish fault) is_read found = found
make_refused input read Write is_read found = found
make_refused input read Memory is_read found = tt
