-- What the parts of an input declare.
use Rattle.std.specs.Prelude.{◌≡◌, ℕ, List, Result, Err}
use Rattle.metric_text.specs.Lines.{lines_of}
use Rattle.metric_parts.specs.Kept.{IsRead}
use Rattle.metric_parts.specs.declared.needs.Needs.{Needs}
use Rattle.metric_parts.specs.declared.parts.Parts.{Parts}
use Rattle.metric_catalogue.specs.declared.fault.CatalogueFault.{CatalogueFault}
use Rattle.metric_contents.specs.declared.contents.Contents.{Contents}
use Rattle.metric_views.specs.declared.config.Setup.{Setup}
use Rattle.metric_views.specs.declared.fault.ViewFault.{ViewFault}
use Rattle.metric_setup.specs.Setups as texts
use Rattle.metric_kit_commands.specs.declared.fault.KitFault.{KitFault}
use Rattle.metric_kit_commands.specs.declared.fault.KitFault.TheVariants.{Catalogue}
use Rattle.metric_kit_commands.specs.declared.fault.KitFault.TheVariants.{Config as BadConfig, Memory}

-- # what is declared (profile) [IsDeclared, IsDeclaredFault]
-- The catalogue and the config that the parts of an input are; or the first fault of the two.
abbrev pub contents_in : Parts → Result Contents CatalogueFault
contents_in read = texts.read_or_opened read.opens read.catalogue

abbrev pub IsDeclared : Parts → Contents → Setup → Type 0
IsDeclared read = texts.IsDeclared (contents_in read) read.config

-- The catalogue is right, and the config has this first fault.
abbrev pub IsFaultyConfig : Parts → ViewFault → Type 0
IsFaultyConfig read = texts.IsFaultyConfig (contents_in read) read.config

-- The fault is the first of the catalogue and the config.
abbrev pub IsDeclaredFault : KitFault → Parts → Type 0
IsDeclaredFault (Catalogue fault) read = contents_in read ≡ Err fault
IsDeclaredFault (BadConfig fault) read = IsFaultyConfig read fault
IsDeclaredFault Memory read = Unit {0}
IsDeclaredFault _ read = ⊥

-- The input has the parts that are needed, and what they declare has a fault.
pub record IsMisdeclared (needs : Needs) (input : List ℕ) (IsFaulty : Parts → Type 0) : Type 0 where
  pub read : Parts
  pub is_read : IsRead needs (lines_of input) read
  pub first : IsFaulty read
