-- What each command answers, and with which fault it stops before it writes.
use Rattle.std.specs.Prelude.{◌≡◌, ℕ, true, false, List, [], codes, if◌then◌else◌, map}
use Rattle.std.specs.List.{AllZip, flat_map}
use Rattle.metric_parts.specs.declared.parts.Parts.{Parts}
use Rattle.metric_contents.specs.declared.contents.Contents.{Contents}
use Rattle.metric_views.specs.declared.config.Setup.{Setup}
use Rattle.metric_plan.specs.Plans.{PlanValue}
use Rattle.metric_resolve.specs.Applying.{all_instruments}
use Rattle.metric_resolve.specs.Resolved.{streams_of}
use Rattle.metric_resolve.specs.Warnings.{warnings_of}
use Rattle.metric_bounds.specs.Amounts.{total_of}
use Rattle.metric_lint.specs.Headrooms.{IsHeadroom}
use Rattle.metric_lint.specs.Kinds.{kind_of}
use Rattle.metric_lint.specs.Remarks.{AreRemarks}
use Rattle.metric_lint.specs.declared.remark.Remark.{Remark}
use Rattle.metric_command_lines.specs.declared.wormweekly.request.Request.{Request}
use Rattle.metric_command_lines.specs.declared.wormweekly.request.Task.{Task}
use Rattle.metric_command_lines.specs.declared.wormweekly.request.Task.TheVariants.{Lint, Show, Make, Check}
use Rattle.metric_command_lines.specs.declared.wormweekly.request.Task.TheVariants.{Headroom, Replay}
use Rattle.metric_kit_commands.specs.declared.fault.KitFault.{KitFault}
use Rattle.metric_kit_commands.specs.Certifying.{IsCertified, IsMakeFault}
use Rattle.metric_kit_commands.specs.Claims.{IsCertifiedPlan, IsClaimFault}
use Rattle.metric_kit_commands.specs.Declarations.{IsDeclared, IsDeclaredFault}
use Rattle.wormweekly_commands.specs.Concerns.{names, unless_named}
use Rattle.wormweekly_commands.specs.Exposures.{all_exposures}
use Rattle.wormweekly_commands.specs.PageReaders.{names_unknown}
use Rattle.wormweekly_commands.specs.declared.fault.ConsoleFault.{ConsoleFault}
use Rattle.wormweekly_commands.specs.declared.fault.ConsoleFault.TheVariants.{Page}
use Rattle.wormweekly_commands.specs.declared.fault.PageFault.TheVariants.{NoReader}
use Rattle.wormweekly_commands.specs.declared.listing.Listing.{Listing}
use Rattle.wormweekly_commands.specs.declared.rooms.Rooms.{Rooms}
use Rattle.wormweekly_commands.specs.declared.notes.Notes.{Notes}
use Rattle.wormweekly_commands.specs.declared.answer.Answer.{Answer}
use Rattle.wormweekly_commands.specs.declared.answer.Answer.TheVariants as answers

-- The streams that the parts give, with what is to be warned of, and how often each instrument may
-- be recorded.
pub record IsListing (parts : Parts) (listing : Listing) : Type 0 where
  pub declared : IsDeclared parts listing.declared.catalogue listing.declared.config
  pub streams : listing.streams.list
      ≡ streams_of listing.declared.catalogue listing.declared.config
  pub warnings : listing.streams.warnings
      ≡ warnings_of listing.declared.catalogue listing.declared.config
  pub totals : listing.totals ≡ map (total_of listing.declared.catalogue)
      (all_instruments listing.declared.catalogue)

-- The headroom of each instrument that the parts declare.
pub record AreRooms (parts : Parts) (rooms : Rooms) : Type 0 where
  pub declared : IsDeclared parts rooms.declared.catalogue rooms.declared.config
  pub rooms_of : AllZip (IsHeadroom rooms.declared.catalogue
      (streams_of rooms.declared.catalogue rooms.declared.config))
      (all_instruments rooms.declared.catalogue) rooms.rooms

-- the words for ways out that are told of: none where that is allowed
abbrev pub told_outlets : List (List ℕ) → List (List ℕ) → List (List ℕ)
told_outlets words allowed = if names allowed (codes "exposure") then [] else words

-- The remarks on what the parts declare that are not allowed, with what the ways out would lose that
-- are asked for.
pub record AreNotes (request : Request) (parts : Parts) (notes : Notes) : Type 0 where
  pub declared : IsDeclared parts notes.declared.catalogue notes.declared.config
  pub all : List Remark
  pub are_remarks : AreRemarks notes.declared.catalogue notes.declared.config all
  pub remarks : notes.remarks ≡ flat_map (unless_named kind_of request.concerns.allowed) all
  pub exposures : notes.exposures.items
      ≡ all_exposures (told_outlets request.concerns.outlets request.concerns.allowed)
      notes.declared.catalogue notes.declared.config
      (streams_of notes.declared.catalogue notes.declared.config)

-- The parts are right.
pub record AreRight (parts : Parts) : Type 0 where
  pub contents : Contents
  pub config : Setup
  pub declared : IsDeclared parts contents config

-- The certificate of the parts is accepted.
pub record IsAccepted (parts : Parts) : Type 0 where
  pub plan : PlanValue
  pub certified : IsCertifiedPlan parts plan

-- What a command answers that asks for nothing but the parts.
abbrev pub IsPlainAnswer : Task → Parts → Answer → Type 0
IsPlainAnswer Make parts (answers.Certificate text) = IsCertified parts text
IsPlainAnswer Check parts answers.Accepted = IsAccepted parts
IsPlainAnswer Show parts (answers.Streams listing) = IsListing parts listing
IsPlainAnswer Headroom parts (answers.Rooms rooms) = AreRooms parts rooms
IsPlainAnswer task parts answer = ⊥

-- each reader that words for ways out name is one that is told of
abbrev pub HasReaders : List (List ℕ) → Answer → Type 0
HasReaders words (answers.Notes notes) =
    names_unknown words notes.declared.config.readers ≡ false
HasReaders words answer = Unit {0}

-- some reader that they name is not, which the fault says
abbrev pub IsUnknownReader : List (List ℕ) → Answer → ConsoleFault → Type 0
IsUnknownReader words (answers.Notes notes) fault =
    (names_unknown words notes.declared.config.readers ≡ true) × (fault ≡ Page NoReader)
IsUnknownReader words answer fault = ⊥

abbrev pub IsNoted : Request → Parts → Answer → Type 0
IsNoted request parts (answers.Notes notes) = AreNotes request parts notes
IsNoted request parts answer = ⊥

-- # what each command answers (profile) [IsAnswer, IsAnswerFault]
-- Each command answers of the parts what it is asked for, or the first fault that they have to it.
abbrev pub IsAnswer : Task → Request → Parts → Answer → Type 0
IsAnswer Lint request = IsNoted request
IsAnswer task request = IsPlainAnswer task

-- The fault is the first that the parts have, to a command.
abbrev pub IsAnswerFault : Task → KitFault → Parts → Type 0
IsAnswerFault Make = IsMakeFault
IsAnswerFault Check = IsClaimFault
IsAnswerFault _ = IsDeclaredFault
