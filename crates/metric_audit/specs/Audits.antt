-- What an audit answers.
use Rattle.std.specs.Prelude.{◌≡◌, ◌&&◌, ℕ, Bool, not, List, Option, Some, None, Result, Ok, Err}
use Rattle.std.specs.Prelude.{slice_get}
use Rattle.std.specs.List.{position_from}
use Rattle.metric_audit.specs.declared.fault.AuditFault.{AuditFault}
use Rattle.metric_audit.specs.declared.fault.AuditFault.TheVariants.{Slips, Batch, Memory}
use Rattle.metric_audit.specs.declared.fault.AuditFault.TheVariants as faults
use Rattle.metric_audit.specs.Batches.{AreAllRight, IsFirstWrong}
use Rattle.metric_audit.specs.Slips.{AreEntriesOf, IsFirstUnlike}
use Rattle.metric_history.specs.declared.slip.Slip.{Slip}
use Rattle.metric_facts.specs.declared.facts.FactsFields.{FactsFields as Facts}
use Rattle.metric_facts.specs.Facts.{RunFacts, in_bounds, is_allowed_set}
use Rattle.metric_history.specs.declared.batch.Batch as batches
use Rattle.metric_history.specs.declared.entry.Entry.{Entry}

-- each recorder's entries are its slips
abbrev pub AgreesWithSlips : List Entry → List (List Slip) → Type 0
AgreesWithSlips entries slips = (recorder : ℕ) → AreEntriesOf entries slips recorder

-- # possible entry (profile) [is_possible, first_impossible]
-- A recording that an instrument can have accepted: of a set that it allows, with a value in range;
-- the place of the first that it can not.
abbrev pub is_possible : Facts → Entry → Bool
is_possible facts entry = is_allowed_set facts entry.set && in_bounds facts entry.value

-- the place of the first entry that is not possible
abbrev pub first_impossible : Facts → List Entry → Option ℕ
first_impossible facts entries = position_from (λ entry. not (is_possible facts entry)) 0 entries

-- # audit (profile) [Audits, AuditsInstrument]
-- Done where slips and batches are those of the journal; else the least recorder whose slips are
-- not, else the first entry that is not possible, else the first wrong batch.
abbrev pub Audits : Facts → ℕ → ℕ → List Entry → List (List Slip) → List batches.Batch
    → Result (Unit {0}) AuditFault → Type 0
Audits facts instrument start entries slips told (Ok done) =
    AgreesWithSlips entries slips × (first_impossible facts entries ≡ None)
    × AreAllRight facts instrument start entries told
Audits facts instrument start entries slips told (Err (Slips recorder)) =
    IsFirstUnlike entries slips recorder
Audits facts instrument start entries slips told (Err (faults.Entry at)) =
    AgreesWithSlips entries slips × (first_impossible facts entries ≡ Some at)
Audits facts instrument start entries slips told (Err (Batch at)) =
    AgreesWithSlips entries slips × (first_impossible facts entries ≡ None)
    × IsFirstWrong facts instrument start entries told at
Audits facts instrument start entries slips told (Err Memory) = Unit {0}

-- the same of the instrument of this number
abbrev pub AuditsInstrument : RunFacts → ℕ → ℕ → List Entry → List (List Slip) → List batches.Batch
    → Result (Unit {0}) AuditFault → Type 0
AuditsInstrument run instrument start entries slips told result =
    (facts : Facts) → slice_get run.instruments instrument ≡ Some facts
    → Audits facts instrument start entries slips told result
