-- What a report has, and with which fault it stops before it is written.
use Rattle.std.specs.Prelude.{◌≡◌, ◌⊎◌, ℕ, false, List, Option, Some, None, Result, IfErr, IfOk, IsSomeAnd, OnErr}
use Rattle.metric_parts.specs.declared.parts.Parts.{Parts}
use Rattle.metric_command_lines.specs.declared.wormweekly.request.Request.{Request}
use Rattle.metric_kit_commands.specs.Declarations.{IsDeclaredFault}
use Rattle.wormweekly_commands.specs.Answers.{AreNotes, AreRooms, IsListing}
use Rattle.wormweekly_commands.specs.Comparing.{IsComparison}
use Rattle.wormweekly_commands.specs.Faults.{IsDeviceFault}
use Rattle.wormweekly_commands.specs.PageReaders.{LacksReader, names_unknown}
use Rattle.wormweekly_commands.specs.declared.comparing.Comparison.{Comparison}
use Rattle.wormweekly_commands.specs.declared.fault.ConsoleFault.{ConsoleFault}
use Rattle.wormweekly_commands.specs.declared.fault.ConsoleFault.TheVariants as faults
use Rattle.wormweekly_commands.specs.declared.parts.Texts.{Texts}
use Rattle.wormweekly_commands.specs.declared.report.Report.{Report}

-- What differs from old parts, where there are some.
abbrev pub AreDifferences : Option Parts → Parts → Option Comparison → Type 0
AreDifferences None parts comparison = comparison ≡ None
AreDifferences (Some old) parts comparison = IsSomeAnd comparison (IsComparison old parts)

-- # what a report has (profile) [HasParts, IsReport]
-- The streams, the remarks and the headrooms of the parts, as the commands alone tell them, and what
-- differs from the old files; each reader that words name is there.
pub record HasParts (request : Request) (texts : Texts) (report : Report) : Type 0 where
  pub listing : IsListing texts.parts report.listing
  pub notes : AreNotes request texts.parts report.notes
  pub rooms : AreRooms texts.parts report.rooms
  pub differences : AreDifferences texts.old texts.parts report.comparison

abbrev pub IsReport : Request → Texts → Report → Type 0
IsReport request texts report = HasParts request texts report
    × (names_unknown request.concerns.outlets report.notes.declared.config.readers ≡ false)

-- The fault is the first of the old files, or of the new ones, or one of what is written to.
abbrev pub RefusesReport : Texts → ConsoleFault → Type 0
RefusesReport texts (faults.Unread role cause) = ⊥
RefusesReport texts (faults.Overwrites role) = ⊥
RefusesReport texts (faults.Unwritten cause) = Unit {0}
RefusesReport texts (faults.Page fault) = ⊥
RefusesReport texts (faults.Old fault) = IsSomeAnd texts.old (λ old. IsDeclaredFault fault old)
RefusesReport texts (faults.Kit fault) = IsDeviceFault fault ⊎ IsDeclaredFault fault texts.parts

-- The same of a report, or a reader that words name is not there.
abbrev pub RefusesWhole : List (List ℕ) → Texts → ConsoleFault → Type 0
RefusesWhole words texts (faults.Page fault) = LacksReader words texts.parts fault
RefusesWhole words texts (faults.Unread role cause) = RefusesReport texts (faults.Unread role cause)
RefusesWhole words texts (faults.Overwrites role) = RefusesReport texts (faults.Overwrites role)
RefusesWhole words texts (faults.Unwritten cause) = RefusesReport texts (faults.Unwritten cause)
RefusesWhole words texts (faults.Old fault) = RefusesReport texts (faults.Old fault)
RefusesWhole words texts (faults.Kit fault) = RefusesReport texts (faults.Kit fault)
