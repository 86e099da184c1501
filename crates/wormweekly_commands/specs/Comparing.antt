-- What a comparison of an old catalogue and config with new ones answers.
use Rattle.std.specs.Prelude.{◌≡◌, ◌⊎◌, ◌&&◌, ℕ, Bool, false, List, [], Option, None, Result, IfErr, IfOk, IsSomeAnd}
use Rattle.std.specs.Prelude.{if◌then◌else◌}
use Rattle.std.specs.List.{flat_map, list_any}
use Rattle.metric_parts.specs.declared.parts.Parts.{Parts}
use Rattle.metric_resolve.specs.Resolved.{streams_of}
use Rattle.metric_diff.specs.declared.change.Change.{Change}
use Rattle.metric_diff.specs.Changes.{Plan, changes_of, plan}
use Rattle.metric_diff.specs.Kinds.{kind_of}
use Rattle.metric_diff.specs.Programs.{AnswersPrograms}
use Rattle.metric_command_lines.specs.declared.wormweekly.request.Request.{Request}
use Rattle.metric_kit_commands.specs.Claims.{IsClaimFault}
use Rattle.metric_kit_commands.specs.Declarations.{IsDeclaredFault}
use Rattle.wormweekly_commands.specs.Answers.{AreRooms, IsAccepted}
use Rattle.wormweekly_commands.specs.Concerns.{denies_broken, denies_change, still_open, unless_named}
use Rattle.wormweekly_commands.specs.Faults.{IsDeviceFault, IsRefusal}
use Rattle.wormweekly_commands.specs.Series.{all_series}
use Rattle.wormweekly_commands.specs.declared.comparing.Claim.{Claim}
use Rattle.wormweekly_commands.specs.declared.comparing.Claim.TheVariants.{Absent, Holds, Fails}
use Rattle.wormweekly_commands.specs.declared.comparing.Comparison.{Comparison}
use Rattle.wormweekly_commands.specs.declared.fault.ConsoleFault.{ConsoleFault}
use Rattle.wormweekly_commands.specs.declared.fault.ConsoleFault.TheVariants as faults
use Rattle.wormweekly_commands.specs.declared.parts.Texts.{Texts}
use Rattle.wormweekly_commands.specs.declared.rooms.Rooms.{Rooms}

-- No certificate is named, or it holds for the parts, or this is the first fault of it.
abbrev pub IsClaim : Parts → Claim → Type 0
IsClaim parts Absent = parts.certificate ≡ None
IsClaim parts Holds = IsAccepted parts
IsClaim parts (Fails fault) = IsClaimFault fault parts

-- what is compared of a side
abbrev pub plan_of : Rooms → Plan
plan_of rooms =
    plan rooms.declared.catalogue rooms.declared.config
    (streams_of rooms.declared.catalogue rooms.declared.config)
    (all_series rooms.declared.catalogue
    (streams_of rooms.declared.catalogue rooms.declared.config)) rooms.rooms

-- # what a comparison answers (profile) [IsComparison, diff_status]
-- The changes from what the old files declare to what the new ones do, whether the certificate holds
-- for the new ones, and what becomes of programs that were made of the old catalogue.
pub record IsComparison (old_parts parts : Parts) (comparison : Comparison) : Type 0 where
  pub old : AreRooms old_parts comparison.old
  pub new : AreRooms parts comparison.new
  pub claim : IsClaim parts comparison.claim
  pub programs : AnswersPrograms comparison.old.declared.catalogue
      comparison.new.declared.catalogue comparison.programs
  pub changes : comparison.changes ≡ changes_of (plan_of comparison.old) (plan_of comparison.new)

abbrev pub IsCompared : Texts → Comparison → Type 0
IsCompared texts comparison = IsSomeAnd texts.old (λ old. IsComparison old texts.parts comparison)

-- The fault is the first of the old parts.
abbrev pub IsOldFault : Parts → ConsoleFault → Type 0
IsOldFault parts (faults.Old fault) = IsDeclaredFault fault parts
IsOldFault parts fault = ⊥

-- The fault is the first of the old parts, or of the new ones; or memory ran out.
abbrev pub RefusesPair : Parts → Parts → ConsoleFault → Type 0
RefusesPair old_parts parts (faults.Old fault) = IsDeclaredFault fault old_parts
RefusesPair old_parts parts (faults.Kit fault) = IsDeviceFault fault ⊎ IsDeclaredFault fault parts
RefusesPair old_parts parts fault = ⊥

-- There are no old files; or it is the first fault of the old ones, or of the new ones; or memory ran
-- out.
abbrev pub RefusesDiff : Texts → ConsoleFault → Type 0
RefusesDiff texts (faults.Unread role cause) = texts.old ≡ None
RefusesDiff texts (faults.Old fault) = IsSomeAnd texts.old (λ old. IsDeclaredFault fault old)
RefusesDiff texts (faults.Kit fault) = IsDeviceFault fault ⊎ IsDeclaredFault fault texts.parts
RefusesDiff texts fault = ⊥

-- 1 where some change is denied, else 0
abbrev pub diff_status : List (List ℕ) → List Change → ℕ
diff_status denied changes = if list_any (denies_change denied) changes then 1 else 0

-- the changes of a comparison that are told, which are not left out
abbrev pub told_changes : Request → Comparison → List Change
told_changes request comparison =
    flat_map (unless_named kind_of request.concerns.allowed) comparison.changes

-- 1 where queries break and that is denied, else the status of the changes
abbrev pub broken_status : List (List ℕ) → Bool → List Change → ℕ
broken_status denied broken changes =
    if broken && denies_broken denied then 1 else diff_status denied changes

-- The answer's status, where it was written. It is that of the changes that are told but for those
-- that a file accepts, without a file there are none; and of whether queries break, where there are
-- some.
pub record Compares (request : Request) (texts : Texts) (status : ℕ) : Type 0 where
  pub comparison : Comparison
  pub compared : IsCompared texts comparison
  pub accepted : List Bool
  pub are_accepted : texts.accepted ≡ None → accepted ≡ []
  pub broken : Bool
  pub is_broken : request.files.queries ≡ [] → broken ≡ false
  pub is_status : status
      ≡ broken_status request.concerns.denied broken
      (still_open accepted (told_changes request comparison))

-- A comparison is written, or refused; where it is refused nothing is written.
pub record RunsDiff (request : Request) (texts : Texts) (contents contents_after : Option (List ℕ))
    (end : Result ℕ ConsoleFault) : Type 0 where
  pub ok : IfOk end (Compares request texts)
  pub first : IfErr end (RefusesDiff texts)
  pub untouched : IfErr end (λ fault. IsRefusal fault → contents_after ≡ contents)
