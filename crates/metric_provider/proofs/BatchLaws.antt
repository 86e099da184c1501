-- Batches are bounded as the windows that they report.
use Rattle.std.proofs.Common.{◌≡◌, ℕ, ◌-◌, Bool, true, false, List, Some, All, length, refl, sym, ap, subst, ◌∙◌, arith}
use Rattle.std.specs.Prelude.{if◌then◌else◌, slice_get}
use Rattle.std.proofs.lemmas.List.{length-drop}
use Rattle.std.proofs.lemmas.Option.{slice_get_within, get_or_from_slice_get}
use Rattle.metric_facts.specs.declared.facts.Facts.{Facts}
use Rattle.metric_facts.specs.declared.facts.NumberedStream.{NumberedStream}
use Rattle.metric_facts.specs.Facts.{is_delta}
use Rattle.metric_history.specs.declared.batch.Batch.{Batch}
use Rattle.metric_history.specs.declared.entry.Entry.{Entry}
use Rattle.metric_history.specs.Windows.{window}
use Rattle.metric_provider.specs.BatchBounds.{IsBatchBounded}
use Rattle.metric_seat.specs.Collections.{IsNextBatch}
use Rattle.metric_safety.specs.SafeFacts.{IsSafeFacts}
use Rattle.metric_slot.specs.declared.seen.Seen.{Seen}
use Rattle.metric_safety.specs.WindowBounds.{BoundsJournals, IsBounded}

all_at : (P : NumberedStream → Type 0) (streams : List NumberedStream) (k : ℕ) (s : NumberedStream) → All P streams → slice_get streams k ≡ Some s → P s
all_at P streams k s all found = subst P (get_or_from_slice_get streams k s s found) (all k s (slice_get_within streams k s found))

window_length : (delta : Bool) (seen : ℕ) (journal : List Entry) → length (window delta seen journal) ≡ length journal - (if delta then seen else 0)
window_length true seen journal = length-drop seen journal
window_length false seen journal = omega arith

pub batch_bounded : (own : Facts) (start reader : ℕ) (seen : Seen) (now : ℕ) (batch : Batch) → BoundsJournals → IsSafeFacts own → IsNextBatch own start reader seen now batch
    → IsBatchBounded own reader batch
batch_bounded own start reader seen now batch law safe next =
    let told = next.journal in
    let whole : List Entry = told.journal in
    let delta : Bool = is_delta own reader in
    record {
      window = window delta seen.mark whole;
      counted = window_length delta seen.mark whole ∙ ap (λ (n : ℕ). n - (if delta then seen.mark else 0)) told.counted ∙ ap (λ (n : ℕ). batch.mark - n) (sym next.continues.from);
      streams = told.streams;
      bounded = λ k s found. all_at (λ (r : NumberedStream). IsBounded own r.stream (window delta seen.mark whole)) own.streams k s (law own whole delta seen.mark safe told.admitted) found;
    }
