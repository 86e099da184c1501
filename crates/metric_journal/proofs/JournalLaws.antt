-- What each call of the book that keeps the list does, for each journal for which the book stands.
use Rattle.std.proofs.Common.{◌≡◌, ℕ, true, List, [], ◌∷◌, ◌++◌, length, refl, sym, ap, subst, ◌∙◌}
use Rattle.std.specs.Prelude.{slice_index, slice_set}
use Rattle.std.proofs.lemmas.List.{length-set, length-replicate}
use Rattle.metric_history.specs.declared.entry.Entry.{Entry}
use Rattle.metric_facts.specs.declared.facts.Facts.{Facts}
use Rattle.metric_history.specs.Windows.{fits_all}
use Rattle.metric_history.specs.Journals.{BeginsJournal, MovesMark, TakesRecording, no_marks}
use Rattle.metric_journal.specs.JournalStands.{JournalValue, StandsForList, empty_journal}
use Rattle.metric_journal.proofs.RangeLaws.{windows-push, windows-marked, windows-none}

-- a book of the facts, without recordings
pub journal_begins : (facts : Facts) (book : JournalValue) → book ≡ empty_journal facts → BeginsJournal (StandsForList book) facts
journal_begins facts book made =
    subst (λ (b : JournalValue). StandsForList b facts [] (no_marks facts)) (sym made) (record {
      same_facts = refl;
      same_entries = refl;
      same_marks = refl;
      one_mark_each = length-replicate (length facts.delta) 0;
      in_range = windows-none facts (no_marks facts) facts.streams;
    })

-- a recording that fits each stream
pub journal_takes : (book new : JournalValue) (entry : Entry) → new ≡ record book { entries = book.entries ++ entry ∷ [] }
    → fits_all book.facts (slice_index book.marks) book.entries entry ≡ true → TakesRecording (StandsForList book) (StandsForList new) entry
journal_takes book new entry made fits facts journal marks s =
    let fits_here : fits_all facts (slice_index marks) journal entry ≡ true =
    sym (ap (λ (f : Facts). fits_all f (slice_index book.marks) book.entries entry) s.same_facts
    ∙ ap (λ (j : List Entry). fits_all facts (slice_index book.marks) j entry) s.same_entries
    ∙ ap (λ (m : List ℕ). fits_all facts (slice_index m) journal entry) s.same_marks)
    ∙ fits in
    subst (λ (b : JournalValue). StandsForList b facts (journal ++ entry ∷ []) marks) (sym made) (record {
      same_facts = s.same_facts;
      same_entries = ap (λ (j : List Entry). j ++ entry ∷ []) s.same_entries;
      same_marks = s.same_marks;
      one_mark_each = s.one_mark_each;
      in_range = windows-push facts journal marks entry facts.streams s.in_range fits_here;
    })

-- a mark that is moved to the end
pub journal_moves : (book new : JournalValue) (reader : ℕ) → new ≡ record book { marks = slice_set book.marks reader (length book.entries) }
    → MovesMark (StandsForList book) (StandsForList new) reader
journal_moves book new reader made facts journal marks s =
    let moved : slice_set book.marks reader (length book.entries) ≡ slice_set marks reader (length journal) =
    ap (λ (m : List ℕ). slice_set m reader (length book.entries)) s.same_marks ∙ ap (λ (j : List Entry). slice_set marks reader (length j)) s.same_entries in
    subst (λ (b : JournalValue). StandsForList b facts journal (slice_set marks reader (length journal))) (sym made) (record {
      same_facts = s.same_facts;
      same_entries = s.same_entries;
      same_marks = moved;
      one_mark_each = length-set marks reader (length journal) ∙ s.one_mark_each;
      in_range = windows-marked facts journal marks reader facts.streams s.in_range;
    })
