-- What the events and replies of a run say of one instrument, and how the audit of its journal
-- ends.
use Rattle.std.specs.Prelude.{◌≡◌, ◌≢◌, ◌<◌, ◌==◌, ◌++◌, ℕ, ℤ, List, [], ◌∷◌, Option, Some, None}
use Rattle.std.specs.Prelude.{Result, Ok, Err, length, slice_get, slice_index_or, if◌then◌else◌}
use Rattle.metric_audit.specs.Audits.{Audits}
use Rattle.metric_audit.specs.declared.fault.AuditFault.{AuditFault}
use Rattle.metric_audit.specs.declared.fault.AuditFault.TheVariants as audits
use Rattle.metric_history.specs.declared.slip.Slip.{Slip}
use Rattle.metric_contents.specs.declared.contents.Contents.{Contents}
use Rattle.metric_contents.specs.declared.refusal.Refusal.{Refusal}
use Rattle.metric_facts.specs.declared.facts.Facts.{Facts}
use Rattle.metric_facts.specs.Facts.{RunFacts}
use Rattle.metric_history.specs.Encoded.{encoded}
use Rattle.metric_history.specs.Events.{instrument_of}
use Rattle.metric_history.specs.History.{History, accepted}
use Rattle.metric_history.specs.declared.batch.Batch.{Batch}
use Rattle.metric_history.specs.declared.entry.Entry.{Entry}
use Rattle.metric_history.specs.declared.event.Event.{Event}
use Rattle.metric_history.specs.declared.event.Event.TheVariants.{Record}
use Rattle.metric_history.specs.declared.event.Reply.{Reply}
use Rattle.metric_history.specs.declared.event.Reply.TheVariants.{Accepted, Collected}
use Rattle.metric_kit_commands.specs.declared.slips.MadeSlip.{MadeSlip}
use Rattle.metric_kit_commands.specs.declared.fault.KitFault.{KitFault}
use Rattle.metric_kit_commands.specs.declared.fault.KitFault.TheVariants.{Audit, Memory}

-- what a recorder's recording is as a slip of another: one where both are the same,
-- and its attributes name a set key
abbrev pub slip_made : ℕ → ℕ → ℤ → Result (List ℕ) Refusal → List Slip
slip_made r recorder value (Ok set) =
    if recorder == r then record { set = set; value = value } ∷ [] else []
slip_made r recorder value (Err refusal) = []

-- the slip that a recording on an instrument makes for a recorder
abbrev pub recorded_by : Contents → ℕ → ℕ → Event → List Slip
recorded_by contents i r (Record recorder instrument attrs value) =
    if instrument == i then slip_made r recorder value (encoded contents i attrs) else []
recorded_by contents i r _ = []

-- the slips that an event makes: those of accepted recordings
abbrev pub slips_by : Contents → ℕ → ℕ → Event → Reply → List Slip
slips_by contents i r event Accepted = recorded_by contents i r event
slips_by contents i r event _ = []

-- # slips and batches that a history tells (profile) [slips_told, batches_told, AreSlipsOf]
-- For a recorder and an instrument the slip of each accepted recording, with the set key that its
-- attributes name; for an instrument the batches with which its events were answered; oldest first.
abbrev pub slips_told : Contents → History → ℕ → ℕ → List Slip
slips_told contents [] i r = []
slips_told contents (a ∷ older) i r =
    slips_told contents older i r ++ slips_by contents i r a.event a.reply

-- the batch with which an event of an instrument was answered
abbrev pub batches_by : ℕ → Event → Reply → List Batch
batches_by i event (Collected b) = if instrument_of event == i then b ∷ [] else []
batches_by i event _ = []

-- those of a history, oldest first
abbrev pub batches_told : History → ℕ → List Batch
batches_told [] i = []
batches_told (a ∷ older) i = batches_told older i ++ batches_by i a.event a.reply

-- A list for each recorder, of the slips that the history makes for it on the instrument.
pub record AreSlipsOf (contents : Contents) (h : History) (i : ℕ) (slips : List (List Slip))
    : Type 0 where
  pub one_each : length slips ≡ length contents.recorders
  pub own : (r : ℕ) → r < length slips → slice_index_or slips r [] ≡ slips_told contents h i r

-- the slip that is a recorder's, where there is one
abbrev pub slip_in : Option MadeSlip → ℕ → List Slip
slip_in None r = []
slip_in (Some made) r = if made.recorder == r then made.slip ∷ [] else []

-- Each recorder has its own slip more, where it has one.
pub record AddsSlip (old new : List (List Slip)) (made : Option MadeSlip) : Type 0 where
  pub one_each : length new ≡ length old
  pub own : (r : ℕ) → r < length new
      → slice_index_or new r [] ≡ slice_index_or old r [] ++ slip_in made r

-- Each recorder has its own slip of an event with its reply more, where it makes one.
pub record AddsSlips (contents : Contents) (i : ℕ) (event : Event) (reply : Reply)
    (old new : List (List Slip)) : Type 0 where
  pub one_each : length new ≡ length old
  pub own : (r : ℕ) → r < length new
      → slice_index_or new r [] ≡ slice_index_or old r [] ++ slips_by contents i r event reply

-- The audit of an instrument's journal, with the slips and the batches of a history, ends so.
pub record EndsAudit (facts : RunFacts) (start : ℕ) (journal : List Entry) (h : History)
    (i : ℕ) (own : Facts)
    (end : Result (Unit {0}) AuditFault) : Type 0 where
  pub slips : List (List Slip)
  pub made : AreSlipsOf facts.contents h i slips
  pub ends : Audits own i start journal slips (batches_told h i) end

-- # audited run (profile) [AuditEnds, AreAudited, SomeFails]
-- The audit of each instrument's journal with these slips and batches ends well.
abbrev pub AuditEnds : RunFacts → ℕ → List Entry → History → ℕ
    → Result (Unit {0}) AuditFault → Type 0
AuditEnds facts start journal h i end =
    (own : Facts) → slice_get facts.instruments i ≡ Some own
    → EndsAudit facts start journal h i own end

-- why an audit of an instrument does not end well: a fault of it, unless memory ran out
abbrev pub FailsAudit : RunFacts → ℕ → List Entry → History → ℕ → KitFault → Type 0
FailsAudit facts start journal h i (Audit fault) =
    (fault ≢ audits.Memory) × AuditEnds facts start journal h i (Err fault)
FailsAudit facts start journal h i Memory = Unit {0}
FailsAudit facts start journal h i _ = ⊥

-- The audit of each instrument ends well: each recorder's slips are its entries in the journal that
-- the history says, and each batch is right.
abbrev pub AreAudited : RunFacts → ℕ → History → Type 0
AreAudited facts start h =
    (i : ℕ) → i < length facts.instruments → AuditEnds facts start (accepted facts h i) h i (Ok tt)

-- That of some instrument does not, for this reason.
pub record SomeFails (facts : RunFacts) (start : ℕ) (h : History) (fault : KitFault) : Type 0 where
  pub instrument : ℕ
  pub known : instrument < length facts.instruments
  pub fails : FailsAudit facts start (accepted facts h instrument) h instrument fault
