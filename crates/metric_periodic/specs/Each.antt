-- A collection of all instruments in which a refused one hides no other.
use Rattle.std.specs.Prelude.{◌≡◌, ℕ, zero, suc, List, [], ◌∷◌, ◌++◌, Result, Ok, Err, filter, length}
use Rattle.metric_contents.specs.declared.refusal.Refusal.{Refusal}
use Rattle.metric_export.specs.Handings.{has_points}
use Rattle.metric_history.specs.declared.batch.Batch.{Batch}
use Rattle.metric_periodic.specs.declared.each.RefusedInstrument.{RefusedInstrument}
use Rattle.metric_seat.specs.Collections.{AnswersCollector, collectable, with_seen}
use Rattle.metric_seat.specs.Seats.{CollectorValue, ProviderValue}

-- what a collection of an instrument is answered, and the seat after it: one that was refused
-- has seen nothing new
abbrev pub CollectsOne : ProviderValue → ℕ → ℕ → CollectorValue → CollectorValue
    → Result Batch Refusal → Type 0
CollectsOne p now instrument old new (Ok batch) =
    AnswersCollector (collectable p old instrument) old instrument now (Ok batch)
    × (new ≡ with_seen old instrument batch)
CollectsOne p now instrument old new (Err refusal) =
    AnswersCollector (collectable p old instrument) old instrument now (Err refusal)
    × (new ≡ old)

-- what such an answer adds to the batches
abbrev pub given_by : Result Batch Refusal → List Batch
given_by (Ok batch) = batch ∷ []
given_by (Err refusal) = []

-- and to the refusals
abbrev pub refused_by : ℕ → Result Batch Refusal → List RefusedInstrument
refused_by instrument (Ok batch) = []
refused_by instrument (Err refusal) = record { instrument = instrument; refusal = refusal } ∷ []

-- One instrument more was collected.
pub record CollectsNext (p : ProviderValue) (now instrument : ℕ) (old new : CollectorValue)
    (before after : List Batch) (told tells : List RefusedInstrument) : Type 0 where
  pub answer : Result Batch Refusal
  pub one : CollectsOne p now instrument old new answer
  pub batches : after ≡ before ++ given_by answer
  pub refused : tells ≡ told ++ refused_by instrument answer

-- each of so many instruments, from the first on, was collected once, in order
abbrev pub CollectsFirst : ProviderValue → ℕ → ℕ → CollectorValue → CollectorValue → List Batch
    → List RefusedInstrument → Type 0
CollectsFirst p now zero old new batches refused =
    (new ≡ old) × ((batches ≡ []) × (refused ≡ []))
CollectsFirst p now (suc count) old new batches refused =
    (mid : CollectorValue) × ((before : List Batch) × ((told : List RefusedInstrument)
    × (CollectsFirst p now count old mid before told
    × CollectsNext p now count mid new before batches told refused)))

-- all of the provider were
abbrev pub CollectsAll : ProviderValue → ℕ → CollectorValue → CollectorValue → List Batch
    → List RefusedInstrument → Type 0
CollectsAll p now old new batches refused =
    CollectsFirst p now (length p.plan.facts.instruments) old new batches refused

-- all were, and these are the batches that have points
pub record CollectsEach (p : ProviderValue) (now : ℕ) (old new : CollectorValue)
    (batches : List Batch) (refused : List RefusedInstrument) : Type 0 where
  pub given : List Batch
  pub all : CollectsAll p now old new given refused
  pub pointed : batches ≡ filter has_points given
