-- the first stream that it does not fit, or none
use Rattle.std.proofs.Common.{◌≡◌, ℕ, ◌+◌, ◌<◌, Bool, true, false, ◌&&◌, List, length, take, get_or, ap, sym, ◌∙◌, rules}
use Rattle.std.specs.Prelude.{slice_index}
use Rattle.std.specs.List.{list_all}
use Rattle.std.proofs.lemmas.List.Folds.{list_all_at, list_all_more}
use Rattle.metric_facts.specs.declared.facts.NumberedStream.{NumberedStream}
use Rattle.metric_facts.specs.Facts.{is_delta}
use Rattle.metric_history.specs.Windows.{window, fits_stream}
use Rattle.metric_journal.proofs.journal_book.JournalBook.fits.Goals as goal

stops : {X : Type 0} (p : X → Bool) (xs all : List X) (i : ℕ) (x : X) → xs ≡ all → i < length xs → x ≡ get_or xs i x → p x ≡ false → false ≡ list_all p all
stops p xs all i x same below item fails = sym (ap (list_all p) (sym same) ∙ list_all_at p xs i x below (ap p (sym item) ∙ fails))

goes_on : {X : Type 0} (p : X → Bool) (xs : List X) (i : ℕ) (x : X) → i < length xs → x ≡ get_or xs i x → list_all p (take i xs) ≡ true → p x ≡ true → list_all p (take (i + 1) xs) ≡ true
goes_on p xs i x below item before passes =
    list_all_more p xs i x below ∙ ap (λ (b : Bool). b && p (get_or xs i x)) before ∙ ap p (sym item) ∙ passes

pub returns-then-not-fits_in : goal.returns-then-not-fits_in
returns-then-not-fits_in c =
    let s = c.args.self.now in
    let p = λ (stream : NumberedStream). fits_stream stream.stream (window (is_delta s.facts stream.stream.reader) (slice_index s.marks stream.stream.reader) s.entries) c.args.entry.now in
    let same : c.as_slice-streams.result.now ≡ s.facts.streams = search rules in
    stops p c.as_slice-streams.result.now s.facts.streams c.loop-numbered.numbered-index c.numbered-item.result same c.loop-numbered-test.true c.numbered-item.is (sym c.if-not-fits_in.ensures)

pub loop-numbered-preserved : goal.loop-numbered-preserved
loop-numbered-preserved c =
    let s = c.args.self.now in
    let p = λ (stream : NumberedStream). fits_stream stream.stream (window (is_delta s.facts stream.stream.reader) (slice_index s.marks stream.stream.reader) s.entries) c.args.entry.now in
    goes_on p c.as_slice-streams.result.now c.loop-numbered.numbered-index c.numbered-item.result c.loop-numbered-test.true c.numbered-item.is c.loop-numbered.invariant (sym c.if-not-fits_in.ensures)
