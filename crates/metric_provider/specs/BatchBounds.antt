-- How each batch of a provider is bounded.
use Rattle.std.specs.Prelude.{◌≡◌, ℕ, ◌-◌, List, Some, length, slice_get}
use Rattle.metric_facts.specs.declared.facts.Facts.{Facts}
use Rattle.metric_facts.specs.declared.facts.NumberedStream.{NumberedStream}
use Rattle.metric_history.specs.declared.batch.Batch.{Batch}
use Rattle.metric_history.specs.declared.entry.Entry.{Entry}
use Rattle.metric_history.specs.Points.{reported}
use Rattle.metric_seat.specs.Collections.{IsNextBatch}
use Rattle.metric_seat.specs.Seats.{ProviderValue}
use Rattle.metric_safety.specs.WindowBounds.{IsBounded}
use Rattle.metric_slot.specs.declared.seen.Seen.{Seen}

-- # bounded batch (SDK, cardinality limits) [IsBatchBounded, AreBatchesBounded]
-- Its streams report as many recordings as it covers, and what each has of them is bounded by how
-- many they are.
pub record IsBatchBounded (own : Facts) (reader : ℕ) (batch : Batch) : Type 0 where
  pub window : List Entry
  pub counted : length window ≡ batch.mark - batch.from
  pub streams : batch.streams ≡ reported own reader window
  pub bounded : (k : ℕ) (s : NumberedStream) → slice_get own.streams k ≡ Some s
      → IsBounded own s.stream window

-- each batch that a seat is told of an instrument of the provider is
abbrev pub AreBatchesBounded : ProviderValue → Type 0
AreBatchesBounded p =
    (instrument start reader now : ℕ) (seen : Seen) (own : Facts) (batch : Batch)
    → slice_get p.plan.facts.instruments instrument ≡ Some own
    → IsNextBatch own start reader seen now batch
    → IsBatchBounded own reader batch
