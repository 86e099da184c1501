-- The tables of a slot are bounded.
use Rattle.std.proofs.Common.{◌≡◌, ℕ, zero, suc, ◌-◌, Bool, true, false, List, [], ◌∷◌, Some, All, length, refl, sym, ap, subst, ◌∙◌, arith}
use Rattle.std.specs.Prelude.{slice_get, slice_index, if◌then◌else◌}
use Rattle.std.proofs.lemmas.List.{length-drop}
use Rattle.std.proofs.lemmas.Option.{slice_get_within, get_or_from_slice_get}
use Rattle.metric_aggregate.specs.Value.{sum_of}
use Rattle.metric_audit.specs.AuditedStands.{AuditedValue, StandsAudited}
use Rattle.metric_history.specs.Journals.{Standing}
use Rattle.metric_core.specs.BudgetLaws.{kept_journal}
use Rattle.metric_core.specs.Cells.{CellKept, CellValue}
use Rattle.metric_history.specs.declared.entry.Entry.{Entry}
use Rattle.metric_facts.specs.declared.facts.NumberedStream.{NumberedStream}
use Rattle.metric_facts.specs.Facts.{is_delta}
use Rattle.metric_history.specs.Points.{values}
use Rattle.metric_history.specs.Windows.{window}
use Rattle.metric_marked.specs.declared.stream_table.StreamTable.{StreamTable}
use Rattle.metric_marked.specs.Marks.{MarkedValue, StandAll, StandsFor, StandsMarked, windows_of}
use Rattle.metric_safety.specs.WindowBounds.{BoundsJournals, IsBounded}
use Rattle.metric_slot.specs.Slots.{IsCertified}
use Rattle.metric_sdk.specs.Tables.{AreTablesBounded}

one_each : (tables : List StreamTable) (streams : List NumberedStream) (windows : ℕ → List Entry) → StandAll tables streams windows → length tables ≡ length streams
one_each [] [] windows all = refl
one_each [] (s ∷ streams) windows all = absurd all
one_each (t ∷ tables) [] windows all = absurd all
one_each (t ∷ tables) (s ∷ streams) windows all = omega (arith, one_each tables streams windows all.1)

stands_at : (tables : List StreamTable) (streams : List NumberedStream) (windows : ℕ → List Entry) → StandAll tables streams windows
    → (k : ℕ) (s : NumberedStream) (t : StreamTable) → slice_get streams k ≡ Some s → slice_get tables k ≡ Some t → StandsFor t s (windows s.stream.reader)
stands_at [] [] windows all k s t here there = absurd cc
stands_at [] (r ∷ streams) windows all k s t here there = absurd all
stands_at (u ∷ tables) [] windows all k s t here there = absurd all
stands_at (u ∷ tables) (r ∷ streams) windows all zero s t here there =
    let same : r ≡ s = cc in
    let this : u ≡ t = cc in
    subst (λ (x : NumberedStream). StandsFor t x (windows x.stream.reader)) same (subst (λ (y : StreamTable). StandsFor y r (windows r.stream.reader)) this all.0)
stands_at (u ∷ tables) (r ∷ streams) windows all (suc k) s t here there = stands_at tables streams windows all.1 k s t here there

window_length : (delta : Bool) (mark : ℕ) (journal : List Entry) → length (window delta mark journal) ≡ (if delta then length journal - mark else length journal)
window_length true mark journal = length-drop mark journal
window_length false mark journal = refl

all_at : (P : NumberedStream → Type 0) (streams : List NumberedStream) (k : ℕ) (s : NumberedStream) → All P streams → slice_get streams k ≡ Some s → P s
all_at P streams k s all found = subst P (get_or_from_slice_get streams k s s found) (all k s (slice_get_within streams k s found))

pub tables_bounded : {B : Type 0} (standing : B → Standing) (tables : MarkedValue) (c : CellValue B) → BoundsJournals → IsCertified c.facts → (k : CellKept standing c)
    → StandsMarked tables c.facts k.journal c.marks → AreTablesBounded c tables.tables
tables_bounded {B} standing tables c law certified k stands = record {
  one_each = one_each tables.tables c.facts.streams (windows_of c.facts k.journal c.marks) stands.tables;
  each = λ at s t here there.
      let reader = s.stream.reader in
      let own : List Entry = windows_of c.facts k.journal c.marks reader in
      let bounded : IsBounded c.facts s.stream own =
      all_at (λ (r : NumberedStream). IsBounded c.facts r.stream (window (is_delta c.facts reader) (slice_index c.marks reader) k.journal)) c.facts.streams at s (law c.facts k.journal (is_delta c.facts reader) (slice_index c.marks reader) certified.safe (kept_journal standing c k)) here in
      record {
        window = own;
        counted = window_length (is_delta c.facts reader) (slice_index c.marks reader) k.journal ∙ ap (λ (n : ℕ). if is_delta c.facts reader then n - slice_index c.marks reader else n) (sym k.known.counted);
        stands = stands_at tables.tables c.facts.streams (windows_of c.facts k.journal c.marks) stands.tables at s t here there;
        bounded = bounded;
        summed = λ keeps cumulative. bounded.summed keeps ∙ ap (λ (d : Bool). sum_of (values (window d (slice_index c.marks reader) k.journal))) cumulative ∙ sym k.known.summed;
      };
}

-- those of a book that keeps nothing else
pub marked_bounded : (c : CellValue MarkedValue) → BoundsJournals → IsCertified c.facts → CellKept StandsMarked c → AreTablesBounded c c.book.tables
marked_bounded c law certified k = tables_bounded StandsMarked c.book c law certified k k.known.book

-- those of a book that keeps the recordings beside them
pub audited_bounded : (c : CellValue AuditedValue) → BoundsJournals → IsCertified c.facts → CellKept StandsAudited c → AreTablesBounded c c.book.tables.tables
audited_bounded c law certified k = tables_bounded StandsAudited c.book.tables c law certified k k.known.book.tables
