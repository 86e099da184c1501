-- What a replay makes of the bytes of its input.
use Rattle.std.specs.Prelude.{◌≡◌, ◌⊎◌, ◌++◌, ℕ, Bool, true, false, not, List, [], Option, Some, None}
use Rattle.std.specs.Prelude.{if◌then◌else◌}
use Rattle.std.specs.List.{flat_map}
use Rattle.std.proofs.Common.{inr}
use Rattle.metric_text.specs.Lines.{lines_of}
use Rattle.metric_parts.specs.Input.{IsFirstFault as IsFaultyLine}
use Rattle.metric_parts.specs.Kept.{IsRead}
use Rattle.metric_parts.specs.Texts.{ScriptLines}
use Rattle.metric_parts.specs.declared.needs.Needs.{Needs}
use Rattle.metric_parts.specs.declared.parts.Parts.{Parts}
use Rattle.metric_script.specs.Scripts.{IsScript, IsFirstFaultAt, IsSomeScript}
use Rattle.metric_script.specs.Stops.{script_events}
use Rattle.metric_contents.specs.declared.contents.Contents.{Contents}
use Rattle.metric_views.specs.declared.config.Setup.{Setup}
use Rattle.metric_plan.specs.Counting.{is_counted}
use Rattle.metric_plan.specs.Plans.{PlanValue, plan_of}
use Rattle.metric_plan.specs.declared.fault.CheckFault.TheVariants.{CountRange}
use Rattle.metric_check.specs.Findings.{of_none}
use Rattle.metric_history.specs.Legal.{grown}
use Rattle.metric_history.specs.declared.batch.Batch.{Batch}
use Rattle.metric_history.specs.declared.event.Event.{Event}
use Rattle.metric_history.specs.declared.event.Reply.{Reply}
use Rattle.metric_kit_commands.specs.declared.options.ReplayOptions.{ReplayOptions}
use Rattle.metric_kit_commands.specs.declared.fault.KitFault.{KitFault}
use Rattle.metric_kit_commands.specs.declared.fault.KitFault.TheVariants.{
  Read,
  Input,
  Catalogue,
  Config as BadConfig,
  Certificate as BadCertificate,
  Check,
  Make,
  Audit,
  Finish,
  Write,
  Memory,
}
use Rattle.metric_kit_commands.specs.Claims.{IsCertifiedPlan, IsFaultyCertificate, IsRefusedCheck}
use Rattle.metric_kit_commands.specs.Commands.{IsAnswerTo}
use Rattle.metric_kit_commands.specs.Declarations.{IsDeclared, IsDeclaredFault, IsMisdeclared}
use Rattle.metric_kit_commands.specs.Audits.{AreAudited}
use Rattle.metric_kit_commands.specs.Replies.{accepted_count, audited_text, encoded_reply, formed_text, replies_text}
use Rattle.metric_kit_commands.specs.Runs.{IsRun}

abbrev pub replay_options : Bool → Bool → ReplayOptions
replay_options trial audit = record { trial = trial; audit = audit }

-- a replay without an audit, and one with it
abbrev pub plain_options : Bool → ReplayOptions
plain_options trial = record { trial = trial; audit = false }

abbrev pub audited_options : Bool → ReplayOptions
audited_options trial = record { trial = trial; audit = true }

-- a trial needs no certificate
abbrev pub needs_of : ReplayOptions → Needs
needs_of options = record { certificate = not options.trial; script = true }

-- The plan of what the parts declare, without a certificate.
pub record IsTrialPlan (read : Parts) (plan : PlanValue) : Type 0 where
  pub contents : Contents
  pub config : Setup
  pub declared : IsDeclared read contents config
  pub counted : is_counted contents ≡ true
  pub planned : plan ≡ plan_of false [] contents config

-- The plan of a trial, or else the one that the certificate shows to be safe.
abbrev pub IsPlanned : ReplayOptions → Parts → PlanValue → Type 0
IsPlanned options read plan =
    ((options.trial ≡ true) × IsTrialPlan read plan)
    ⊎ ((options.trial ≡ false) × IsCertifiedPlan read plan)

-- the events of the script of some parts, where they have one
abbrev pub script_events_in : Option ScriptLines → List Event
script_events_in (Some script) = script_events script.lines
script_events_in None = []

abbrev pub script_events_of : Parts → List Event
script_events_of read = script_events_in read.script

abbrev pub HasEventsIn : Option ScriptLines → Type 0
HasEventsIn (Some script) = IsSomeScript script.lines
HasEventsIn None = ⊥

abbrev pub HasEvents : Parts → Type 0
HasEvents read = HasEventsIn read.script

-- What the parts declare, and the events of their script since a start.
pub record IsPrepared (options : ReplayOptions) (read : Parts) (plan : PlanValue) (start : ℕ)
    (events : List Event) : Type 0 where
  pub script : ScriptLines
  pub is_planned : IsPlanned options read plan
  pub has_script : read.script ≡ Some script
  pub is_script : IsScript script.lines start events

-- # replies to an input (profile)
-- A legal reply for each event of its script, none of them out of memory, under the plan of what it
-- declares.
pub record IsAnswered (options : ReplayOptions) (read : Parts) (plan : PlanValue)
    (replies : List Reply) : Type 0 where
  pub script : ScriptLines
  pub start : ℕ
  pub events : List Event
  pub is_planned : IsPlanned options read plan
  pub has_script : read.script ≡ Some script
  pub is_script : IsScript script.lines start events
  pub run : IsRun plan start events replies

-- What was told holds of the replies, under some plan.
pub record IsTallied (options : ReplayOptions) (read : Parts) (Told : List Reply → Type 0)
    : Type 0 where
  pub plan : PlanValue
  pub replies : List Reply
  pub answered : IsAnswered options read plan replies
  pub told : Told replies

-- What an audited run comes to: the replies, with how many recordings they accept, and the
-- audit of each instrument ends well.
pub record IsAuditedRun (options : ReplayOptions) (read : Parts) (plan : PlanValue)
    (replies : List Reply) (accepted : ℕ) : Type 0 where
  pub answered : IsAnswered options read plan replies
  pub audited : AreAudited plan.facts answered.start (grown [] answered.events replies)
  pub counted : accepted ≡ accepted_count replies

-- what an audit adds to the replies: a line with how many recordings were accepted
abbrev pub audit_text : ReplayOptions → List Reply → List ℕ
audit_text options replies = if options.audit then audited_text (accepted_count replies) else []

-- # output of an input (profile) [IsOutputOf, IsOutput]
-- The texts of the replies to it, one after the other; with an audit also the line of it, and each
-- instrument is audited.
pub record IsOutputOf (options : ReplayOptions) (read : Parts) (text : List ℕ) : Type 0 where
  pub plan : PlanValue
  pub replies : List Reply
  pub answered : IsAnswered options read plan replies
  -- an audit of each instrument ends well, where one is asked for
  pub audited : options.audit ≡ true
      → AreAudited plan.facts answered.start (grown [] answered.events replies)
  pub written : text ≡ replies_text plan replies ++ audit_text options replies

abbrev pub IsOutput : ReplayOptions → List ℕ → List ℕ → Type 0
IsOutput options = IsAnswerTo (needs_of options) (IsOutputOf options)

-- The bytes that a replay of parts writes without an audit, of replies in a form.
pub record IsFormed (text : PlanValue → Reply → List ℕ) (options : ReplayOptions) (read : Parts)
    (bytes : List ℕ) : Type 0 where
  pub plan : PlanValue
  pub replies : List Reply
  pub answered : IsAnswered options read plan replies
  pub written : bytes ≡ formed_text (text plan) replies

-- # encoded output (profile)
-- The bytes of each batch among the replies in an encoding, in their order, and of no other reply.
pub record IsEncodedOutput (encode : PlanValue → Batch → List ℕ) (options : ReplayOptions)
    (read : Parts) (bytes : List ℕ) : Type 0 where
  pub plan : PlanValue
  pub replies : List Reply
  pub answered : IsAnswered options read plan replies
  pub written : bytes ≡ flat_map (encoded_reply encode plan) replies

-- What the parts declare is right, but budgets for one instrument are
-- together above the range of u64.
pub record IsUncounted (read : Parts) : Type 0 where
  pub contents : Contents
  pub config : Setup
  pub declared : IsDeclared read contents config
  pub uncounted : is_counted contents ≡ false

-- The fault is the first of the catalogue, the config and the count of the budgets.
abbrev pub IsTrialFault : KitFault → Parts → Type 0
IsTrialFault (Check fault) read = (fault ≡ of_none CountRange) × IsUncounted read
IsTrialFault fault read = IsDeclaredFault fault read

-- The fault is the first that the parts have before the script is read.
abbrev pub IsPlanFault : ReplayOptions → KitFault → Parts → Type 0
IsPlanFault options (BadCertificate fault) read =
    (options.trial ≡ false) × IsFaultyCertificate read fault
IsPlanFault options (Check fault) read =
    ((options.trial ≡ true) × (fault ≡ of_none CountRange) × IsUncounted read)
    ⊎ ((options.trial ≡ false) × IsRefusedCheck read fault)
IsPlanFault options fault read = IsDeclaredFault fault read

-- Everything before the script is right, and this is the script's first faulty line.
pub record IsFaultyScript (options : ReplayOptions) (line : ℕ) (read : Parts) : Type 0 where
  pub script : ScriptLines
  pub plan : PlanValue
  pub is_planned : IsPlanned options read plan
  pub has_script : read.script ≡ Some script
  pub first : IsFirstFaultAt script line

-- The fault is the first that the parts have.
abbrev pub IsReplayFault : ReplayOptions → KitFault → Parts → Type 0
IsReplayFault options (Input line) read = IsFaultyScript options line read
IsReplayFault options fault read = IsPlanFault options fault read

-- # first fault of an input (profile)
-- Of its parts, then of what they declare, then of its script.
abbrev pub IsFirstFault : ReplayOptions → List ℕ → KitFault → Type 0
IsFirstFault options input (Input line) =
    IsFaultyLine (needs_of options) (lines_of input) line
    ⊎ IsMisdeclared (needs_of options) input (IsFaultyScript options line)
IsFirstFault options input (Catalogue fault) =
    IsMisdeclared (needs_of options) input (IsPlanFault options (Catalogue fault))
IsFirstFault options input (BadConfig fault) =
    IsMisdeclared (needs_of options) input (IsPlanFault options (BadConfig fault))
IsFirstFault options input (BadCertificate fault) =
    IsMisdeclared (needs_of options) input (IsPlanFault options (BadCertificate fault))
IsFirstFault options input (Check fault) =
    IsMisdeclared (needs_of options) input (IsPlanFault options (Check fault))
IsFirstFault options input (Make fault) = ⊥
-- an audit never fails
IsFirstFault options input (Audit fault) = ⊥
IsFirstFault options input (Finish fault) = ⊥
IsFirstFault options input Memory = Unit {0}
IsFirstFault options input Read = ⊥
IsFirstFault options input Write = ⊥

-- A fault of the parts is the first of the input.
pub replay_refused : (options : ReplayOptions) (input : List ℕ) (read : Parts) (fault : KitFault)
    → IsRead (needs_of options) (lines_of input) read → IsReplayFault options fault read
    → IsFirstFault options input fault
replay_refused options input read Read is_read found = found
replay_refused options input read (Input line) is_read found =
    inr (record { read = read; is_read = is_read; first = found })
replay_refused options input read (Catalogue fault) is_read found =
    record { read = read; is_read = is_read; first = found }
replay_refused options input read (BadConfig fault) is_read found =
    record { read = read; is_read = is_read; first = found }
replay_refused options input read (BadCertificate fault) is_read found =
    record { read = read; is_read = is_read; first = found }
replay_refused options input read (Check fault) is_read found =
    record { read = read; is_read = is_read; first = found }
replay_refused options input read (Make fault) is_read found = found
replay_refused options input read (Audit fault) is_read found = found
replay_refused options input read (Finish fault) is_read found = found
replay_refused options input read Write is_read found = found
replay_refused options input read Memory is_read found = tt
