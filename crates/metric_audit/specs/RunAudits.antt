-- What the audit of a run answers.
use Rattle.std.specs.Prelude.{◌≡◌, ◌≢◌, ◌<◌, ◌≤◌, ◌==◌, ◌&&◌, ◌∷◌, ◌++◌, ℕ, Bool, not, List, []}
use Rattle.std.specs.Prelude.{Option, Some, None, Result, Ok, Err, filter, length, nat_lt, slice_get}
use Rattle.std.specs.Prelude.{slice_index_or, MatchBool}
use Rattle.std.specs.List.{position_from}
use Rattle.metric_audit.specs.Audits.{AuditsInstrument}
use Rattle.metric_audit.specs.Batches.{mark_after}
use Rattle.metric_audit.specs.declared.fault.AuditFault.TheVariants as audits
use Rattle.metric_history.specs.declared.slip.Slip.{Slip}
use Rattle.metric_history.specs.declared.batch.Batch.{Batch}
use Rattle.metric_history.specs.declared.entry.Entry.{Entry}
use Rattle.metric_plan.specs.Plans.{PlanValue, print_of}
use Rattle.metric_audit.specs.declared.run_audit.Extent.{Extent}
use Rattle.metric_audit.specs.declared.run_audit.Extent.TheVariants.{Partial, Whole}
use Rattle.metric_audit.specs.declared.run_audit.RunAuditFault.{RunAuditFault}
use Rattle.metric_audit.specs.declared.run_audit.RunAuditFault.TheVariants.{Strange, Lists}
use Rattle.metric_audit.specs.declared.run_audit.RunAuditFault.TheVariants.{Instrument, Uncovered}
use Rattle.metric_audit.specs.declared.run_audit.RunAuditFault.TheVariants.{Memory}

-- # batches of a run (profile) [first_strange, of_instrument]
-- The first batch that is of another plan or of an instrument that the plan lacks; the batches of an
-- instrument, in order.
abbrev pub is_strange : PlanValue → Batch → Bool
is_strange plan b =
    not ((b.plan == print_of plan) && nat_lt b.instrument (length plan.facts.instruments))

abbrev pub first_strange : PlanValue → List Batch → Option ℕ
first_strange plan batches = position_from (is_strange plan) 0 batches

abbrev pub of_instrument : ℕ → List Batch → List Batch
of_instrument instrument batches = filter (λ (b : Batch). b.instrument == instrument) batches

-- lists of so many instruments have the batches of each
pub record AreSorted (count : ℕ) (batches : List Batch) (sorted : List (List Batch)) : Type 0 where
  pub one_each : length sorted ≡ count
  pub own : (i : ℕ) → i < count → slice_index_or sorted i [] ≡ of_instrument i batches

-- one batch more stands last in the list of its instrument, where there is one
pub record AddsBatch (old new : List (List Batch)) (batch : Batch) : Type 0 where
  pub one_each : length new ≡ length old
  pub own : (i : ℕ) → i < length new
      → slice_index_or new i [] ≡ slice_index_or old i [] ++ of_instrument i (batch ∷ [])

-- # covered journal (profile) [IsUncovered, FindsUncovered]
-- The least reader whose last batch counts fewer recordings than so many, where the whole journal
-- has to be covered.
pub record IsUncovered (readers count : ℕ) (batches : List Batch) (reader : ℕ) : Type 0 where
  pub known : reader < readers
  pub short : mark_after reader batches < count
  pub earlier : (other : ℕ) → other < reader → count ≤ mark_after other batches

abbrev pub FindsUncovered : Extent → ℕ → ℕ → List Batch → Option ℕ → Type 0
FindsUncovered Whole readers count batches (Some reader) =
    IsUncovered readers count batches reader
FindsUncovered Whole readers count batches None =
    (reader : ℕ) → reader < readers → count ≤ mark_after reader batches
FindsUncovered Partial readers count batches found = found ≡ None

-- # audit of a run (profile) [AuditsRun, AuditsOne, AuditsParts]
-- No batch is strange, and for each instrument in order there are a journal and a list of slips for
-- each recorder, the audit of these and of its batches is done, and where the whole journal has to
-- be covered, it is by the last batch of each reader.
abbrev pub AuditsParts : PlanValue → ℕ → Extent → ℕ → List Entry → List (List Slip) → List Batch
    → Result (Unit {0}) RunAuditFault → Type 0
AuditsParts plan start extent i journal slips told (Ok done) =
    AuditsInstrument plan.facts i start journal slips told (Ok tt)
    × FindsUncovered extent (length plan.config.readers) (length journal) told None
AuditsParts plan start extent i journal slips told (Err (Instrument instrument fault)) =
    (instrument ≡ i) × (fault ≢ audits.Memory)
    × AuditsInstrument plan.facts i start journal slips told (Err fault)
AuditsParts plan start extent i journal slips told (Err (Uncovered instrument reader)) =
    (instrument ≡ i) × AuditsInstrument plan.facts i start journal slips told (Ok tt)
    × FindsUncovered extent (length plan.config.readers) (length journal) told (Some reader)
AuditsParts plan start extent i journal slips told (Err Memory) = Unit {0}
AuditsParts plan start extent i journal slips told (Err (Lists instrument)) = ⊥
AuditsParts plan start extent i journal slips told (Err (Strange at)) = ⊥

-- the same of the lists that there are
abbrev pub AuditsOne : PlanValue → ℕ → Extent → ℕ → Option (List Entry)
    → Option (List (List Slip)) → List Batch → Result (Unit {0}) RunAuditFault → Type 0
AuditsOne plan start extent i (Some journal) (Some slips) told result =
    MatchBool (length slips == length plan.facts.contents.recorders)
    (AuditsParts plan start extent i journal slips told result)
    (result ≡ Err (Lists i))
AuditsOne plan start extent i _ _ told result = result ≡ Err (Lists i)

-- the first instrument of which something is found, or memory ran out
pub record FindsFirst (one : ℕ → Result (Unit {0}) RunAuditFault → Type 0) (count : ℕ)
    (fault : RunAuditFault) : Type 0 where
  pub instrument : ℕ
  pub known : instrument < count
  pub earlier : (other : ℕ) → other < instrument → one other (Ok tt)
  pub found : one instrument (Err fault)

-- each instrument, in order
abbrev pub AuditsEach : (ℕ → Result (Unit {0}) RunAuditFault → Type 0) → ℕ
    → Result (Unit {0}) RunAuditFault → Type 0
AuditsEach one count (Ok done) = (i : ℕ) → i < count → one i (Ok tt)
AuditsEach one count (Err fault) = FindsFirst one count fault

-- the whole answer
abbrev pub AuditsRun : PlanValue → ℕ → Extent → List (List Entry) → List (List (List Slip))
    → List Batch → Result (Unit {0}) RunAuditFault → Type 0
AuditsRun plan start extent journals slips batches (Err (Strange at)) =
    first_strange plan batches ≡ Some at
AuditsRun plan start extent journals slips batches (Err Memory) = Unit {0}
AuditsRun plan start extent journals slips batches result =
    (first_strange plan batches ≡ None)
    × AuditsEach (λ i.
    AuditsOne plan start extent i (slice_get journals i) (slice_get slips i)
    (of_instrument i batches)) (length plan.facts.instruments) result
