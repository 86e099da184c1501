-- A book that stands for a journal, and what each call makes of it.
use Rattle.std.proofs.Common.{◌≡◌, ℕ, zero, suc, ◌<◌, ◌≤◌, Bool, true, false, List, [], ◌∷◌, ◌++◌, length, drop, refl, sym, ap, subst, ◌∙◌, arith, ⊎_elim}
use Rattle.std.specs.Prelude.{replicate, slice_index, slice_set}
use Rattle.std.proofs.lemmas.Bool.{cases_eq}
use Rattle.std.proofs.lemmas.List.{drop-append-le, drop_all, get_or-set_same, get_or-set_other, length-set, length-replicate}
use Rattle.metric_history.specs.Journals.{no_marks}
use Rattle.metric_facts.specs.Facts.{is_delta, is_full_set}
use Rattle.metric_facts.specs.Products.{AreAllByProduct}
use Rattle.metric_history.specs.Windows.{window}
use Rattle.metric_history.specs.declared.entry.Entry.{Entry}
use Rattle.metric_facts.specs.declared.facts.Facts.{Facts}
use Rattle.metric_marked.specs.Marks.{ClosesWindow, EmptyFor, HaveRoom, KeepPlaces, MarkedValue, StandAll, StandsMarked, TakeAll, windows_of}
use Rattle.metric_marked.specs.declared.stream_table.StreamTable.{StreamTable}
use Rattle.metric_marked.proofs.TableLaws.{keeps-same, stands-same}

no_mark : (n reader : ℕ) → slice_index (replicate n 0) reader ≡ 0
no_mark zero reader = refl
no_mark (suc n) zero = refl
no_mark (suc n) (suc reader) = no_mark n reader

window-none : (delta : Bool) (mark : ℕ) → window delta mark [] ≡ []
window-none true mark = drop_all mark [] (omega arith)
window-none false mark = refl

window-push : (delta : Bool) (mark : ℕ) (journal : List Entry) (entry : Entry) → mark ≤ length journal → window delta mark (journal ++ entry ∷ []) ≡ window delta mark journal ++ entry ∷ []
window-push true mark journal entry low = drop-append-le mark journal (entry ∷ []) low
window-push false mark journal entry low = refl

-- a book of empty tables
pub marked_begins : (tables : List StreamTable) (facts : Facts) → StandAll tables facts.streams (λ _. []) → ((set : List ℕ) → is_full_set facts.keys set ≡ true → TakeAll tables set) → (AreAllByProduct facts → HaveRoom tables)
    → StandsMarked (record { tables = tables; delta = facts.delta; marks = no_marks facts; count = 0 }) facts [] (no_marks facts)
marked_begins tables facts all takes room = record {
  tables = stands-same tables facts.streams (λ _. []) (windows_of facts [] (no_marks facts)) (λ reader. sym (window-none (is_delta facts reader) (slice_index (no_marks facts) reader))) all;
  takes = takes;
  room = room;
  delta = refl;
  mark = refl;
  count = refl;
  one_each = length-replicate (length facts.delta) 0;
  low = λ reader. omega (arith, no_mark (length facts.delta) reader);
}

mark_own : (marks : List ℕ) (reader x : ℕ) → reader < length marks → slice_index (slice_set marks reader x) reader ≡ x
mark_own marks reader x below = get_or-set_same marks reader x 0 below

mark_other : (marks : List ℕ) (reader x other : ℕ) → (other ≡ reader → ⊥) → slice_index (slice_set marks reader x) other ≡ slice_index marks other
mark_other marks reader x other differ = get_or-set_other marks reader other x 0 differ

module _ (facts : Facts) (journal : List Entry) (marks : List ℕ) (reader : ℕ) (below : reader < length marks) where
  later : ℕ → List Entry
  later = windows_of facts journal (slice_set marks reader (length journal))

  others_same : (other : ℕ) → (other ≡ reader → ⊥) → windows_of facts journal (slice_set marks reader (length journal)) other ≡ windows_of facts journal marks other
  others_same other differ = ap (λ (mark : ℕ). window (is_delta facts other) mark journal) (mark_other marks reader (length journal) other differ)

  -- the window of a delta reader is empty after its collection
  empty_after : is_delta facts reader ≡ true → EmptyFor (windows_of facts journal marks) (windows_of facts journal (slice_set marks reader (length journal))) reader
  empty_after delta = record {
    own = ap (λ (b : Bool). window b (slice_index (slice_set marks reader (length journal)) reader) journal) delta
        ∙ ap (λ (mark : ℕ). drop mark journal) (mark_own marks reader (length journal) below)
        ∙ drop_all (length journal) journal (omega arith);
    others = others_same;
  }

  -- that of a cumulative reader is what it was
  same_after : is_delta facts reader ≡ false → (other : ℕ) → windows_of facts journal marks other ≡ windows_of facts journal (slice_set marks reader (length journal)) other
  same_after cumulative other = ⊎_elim own (λ differ. sym (others_same other differ)) (cases_eq other reader)
    where
      any_mark : (r x y : ℕ) → is_delta facts r ≡ false → window (is_delta facts r) x journal ≡ window (is_delta facts r) y journal
      any_mark r x y e = ap (λ (b : Bool). window b x journal) e ∙ sym (ap (λ (b : Bool). window b y journal) e)

      own : other ≡ reader → windows_of facts journal marks other ≡ windows_of facts journal (slice_set marks reader (length journal)) other
      own same = any_mark other (slice_index marks other) (slice_index (slice_set marks reader (length journal)) other) (ap (is_delta facts) same ∙ cumulative)

  closed : (b : MarkedValue) (tables : List StreamTable) (delta : Bool) → is_delta facts reader ≡ delta → StandAll b.tables facts.streams (windows_of facts journal marks)
      → ClosesWindow b.tables tables delta reader → StandAll tables facts.streams (windows_of facts journal (slice_set marks reader (length journal)))
  closed b tables true delta all closes = closes.stands facts.streams (windows_of facts journal marks) (windows_of facts journal (slice_set marks reader (length journal))) (empty_after delta) all
  closed b tables false cumulative all closes =
      subst (λ (ts : List StreamTable). StandAll ts facts.streams (windows_of facts journal (slice_set marks reader (length journal)))) (sym closes)
      (stands-same b.tables facts.streams (windows_of facts journal marks) (windows_of facts journal (slice_set marks reader (length journal))) (same_after cumulative) all)

  low_after : ((other : ℕ) → slice_index marks other ≤ length journal) → (other : ℕ) → slice_index (slice_set marks reader (length journal)) other ≤ length journal
  low_after low other =
      ⊎_elim (λ same. omega (arith, ap (slice_index (slice_set marks reader (length journal))) same, mark_own marks reader (length journal) below))
      (λ differ. omega (arith, low other, mark_other marks reader (length journal) other differ))
      (cases_eq other reader)

-- its tables have the places that they had
closed_places : (old new : List StreamTable) (delta : Bool) (reader : ℕ) → ClosesWindow old new delta reader → KeepPlaces old new
closed_places old new true reader closes = closes.places
closed_places old new false reader closes = keeps-same old new closes

-- a collection that was answered
pub marked_moves : (b : MarkedValue) (tables : List StreamTable) (reader : ℕ) (facts : Facts) (journal : List Entry) (marks : List ℕ) → StandsMarked b facts journal marks
    → reader < length marks → ClosesWindow b.tables tables (is_delta facts reader) reader
    → StandsMarked (record b { tables = tables; marks = slice_set b.marks reader b.count }) facts journal (slice_set marks reader (length journal))
marked_moves b tables reader facts journal marks s below closes = record {
  tables = closed facts journal marks reader below b tables (is_delta facts reader) refl s.tables closes;
  takes = λ set full. (closed_places b.tables tables (is_delta facts reader) reader closes).sets set (s.takes set full);
  room = λ dense. (closed_places b.tables tables (is_delta facts reader) reader closes).room (s.room dense);
  delta = s.delta;
  mark = ap (λ (m : List ℕ). slice_set m reader b.count) s.mark ∙ ap (slice_set marks reader) s.count;
  count = s.count;
  one_each = length-set marks reader (length journal) ∙ s.one_each;
  low = low_after facts journal marks reader below s.low;
}
