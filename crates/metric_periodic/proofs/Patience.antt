-- Instruments that are collected one after the other.
use Rattle.std.proofs.Common.{◌≡◌, ℕ, ◌+◌, List, Result, Ok, Err, OnErr, add-one}
use Rattle.std.specs.Prelude.{IfOk}
use Rattle.metric_contents.specs.declared.refusal.Refusal.{Refusal}
use Rattle.metric_history.specs.declared.batch.Batch.{Batch}
use Rattle.metric_periodic.specs.Each.{CollectsFirst, CollectsNext, CollectsOne}
use Rattle.metric_periodic.specs.declared.each.RefusedInstrument.{RefusedInstrument}
use Rattle.metric_seat.specs.Collections.{AnswersCollector, collectable, with_seen}
use Rattle.metric_seat.specs.Seats.{CollectorValue, ProviderValue}

-- one collection, by what it ensures
pub collected_one : (p : ProviderValue) (now instrument : ℕ) (old new : CollectorValue) (answer : Result Batch Refusal)
    → AnswersCollector (collectable p old instrument) old instrument now answer
    → IfOk answer (λ batch. new ≡ with_seen old instrument batch) → OnErr answer (new ≡ old) → CollectsOne p now instrument old new answer
collected_one p now instrument old new (Ok batch) told seen kept = (told, seen)
collected_one p now instrument old new (Err refusal) told seen kept = (told, kept)

-- one instrument more
pub one_more_instrument : (p : ProviderValue) (now count : ℕ) (old mid new : CollectorValue) (before after : List Batch)
    (told tells : List RefusedInstrument) → CollectsFirst p now count old mid before told
    → CollectsNext p now count mid new before after told tells → CollectsFirst p now (count + 1) old new after tells
one_more_instrument p now count old mid new before after told tells first next = rw add-one (mid, (before, (told, (first, next))))
