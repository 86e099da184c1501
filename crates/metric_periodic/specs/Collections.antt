-- What the collections of a periodic reader gave.
use Rattle.std.specs.Prelude.{◌≡◌, ℕ, List, Option, Some, None, Vec, Result, Ok, Err, true, length}
use Rattle.std.specs.Global.{Global}
use Rattle.metric_history.specs.declared.batch.Batch.{Batch}
use Rattle.metric_provider.specs.declared.fault.AllFault.{AllFault}
use Rattle.metric_seat.specs.Collections.{AllRefused, AnswersEach, with_all_seen}
use Rattle.metric_seat.specs.Seats.{CollectorValue, ProviderValue, is_collector_of}

-- what a collection of all instruments answers
abbrev pub Collected : Type 0
Collected = Result (Vec Batch Global) AllFault

-- the batches that a collection gave, also where it was refused before its end
abbrev pub batches_of : Collected → List Batch
batches_of (Ok batches) = batches.items
batches_of (Err fault) = fault.done.items

-- The next batch of each instrument of the provider at a moment, in order.
pub record AreNextBatches (p : ProviderValue) (seat : CollectorValue) (now : ℕ)
    (batches : List Batch) : Type 0 where
  pub own : is_collector_of p seat ≡ true
  pub each : AnswersEach p seat now batches
  pub all : length batches ≡ length p.plan.facts.instruments

-- a collection at a moment with a seat, which has then seen the batches that it gave
abbrev pub Collects : ProviderValue → ℕ → CollectorValue → CollectorValue → Collected → Type 0
Collects p now old new (Ok batches) =
    AreNextBatches p old now batches.items × (new ≡ with_all_seen old batches.items)
Collects p now old new (Err fault) =
    AllRefused p old now fault.done.items fault.instrument fault.refusal
    × (new ≡ with_all_seen old fault.done.items)

-- the last collection with a seat, which is kept only where it was refused
abbrev pub CollectsLast : ProviderValue → ℕ → CollectorValue → Option CollectorValue → Collected
    → Type 0
CollectsLast p now old kept (Ok batches) = AreNextBatches p old now batches.items × (kept ≡ None)
CollectsLast p now old kept (Err fault) =
    AllRefused p old now fault.done.items fault.instrument fault.refusal
    × (kept ≡ Some (with_all_seen old fault.done.items))
