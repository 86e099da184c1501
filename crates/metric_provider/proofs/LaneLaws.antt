-- Several states of one instrument, taken together.
use Rattle.std.proofs.Common.{◌≡◌, ◌<◌, ◌≤◌, ℕ, ◌+◌, ℤ, pos, ◌+ℤ◌, Bool, true, false, List, [], ◌∷◌, ◌++◌, get_or, length, take, refl, sym, ap, subst, ◌∙◌, append_assoc, arith}
use Rattle.std.specs.Prelude.{◌&&◌, All, fold}
use Rattle.std.proofs.lemmas.Int.{ints}
use Rattle.std.proofs.lemmas.List.{append-nil, length-append, map-append, take_more}
use Rattle.std.proofs.lemmas.List.Elements.{All-head, All-tail}
use Rattle.std.proofs.lemmas.List.Folds.{list_all-append}
use Rattle.std.proofs.lemmas.List.Sums.{fold-append, sum_by-cons, sum_by_more, sum_by-take-le}
use Rattle.metric_aggregate.specs.Value.{sum_of}
use Rattle.metric_history.specs.Journals.{KeepsAllOrNothing, Standing, kept_of}
use Rattle.metric_core.specs.Cells.{CellKept, CellValue}
use Rattle.metric_facts.specs.declared.facts.Facts.{Facts}
use Rattle.metric_history.specs.declared.entry.Entry.{Entry}
use Rattle.metric_history.specs.Points.{values}
use Rattle.metric_safety.specs.SafeFacts.{are_admitted, is_admitted}
use Rattle.metric_seat.specs.Seats.{RecorderValue}
use Rattle.metric_seat.specs.Settlements.{IsToldBy}
use Rattle.metric_provider.specs.Lanes.{count_over, kept_by, numbers_over, total_over}
use Rattle.metric_provider.specs.Totals.{IsToldJournal, number_of, told_on}

-- ---- what their books keep

kept_last : {B : Type 0} (kept : B → List Entry) (cells : List (CellValue B)) (c : CellValue B) → kept_by kept (cells ++ c ∷ []) ≡ kept_by kept cells ++ kept c.book
kept_last kept [] c = append-nil (kept c.book)
kept_last kept (d ∷ cells) c = ap (λ (es : List Entry). kept d.book ++ es) (kept_last kept cells c) ∙ sym (append_assoc (kept d.book) (kept_by kept cells) (kept c.book))

-- those of one lane more
pub kept_more : {B : Type 0} (kept : B → List Entry) (cells : List (CellValue B)) (at : ℕ) (c : CellValue B) → at < length cells → c ≡ get_or cells at c
    → kept_by kept (take (at + 1) cells) ≡ kept_by kept (take at cells) ++ kept c.book
kept_more {B} kept cells at c below here =
    ap (kept_by kept) (take_more cells at c below ∙ ap (λ (d : CellValue B). take at cells ++ d ∷ []) (sym here)) ∙ kept_last kept (take at cells) c

-- ---- their sums

total_last : {B : Type 0} (cells : List (CellValue B)) (c : CellValue B) → total_over (cells ++ c ∷ []) ≡ total_over cells +ℤ c.total
total_last [] c = omega (arith, ints)
total_last (d ∷ cells) c = omega (arith, ints, total_last cells c)

-- with those of one lane more
pub total_more : {B : Type 0} (cells : List (CellValue B)) (at : ℕ) (c : CellValue B) → at < length cells → c ≡ get_or cells at c
    → total_over (take (at + 1) cells) ≡ total_over (take at cells) +ℤ c.total
total_more {B} cells at c below here = ap total_over (take_more cells at c below ∙ ap (λ (d : CellValue B). take at cells ++ d ∷ []) (sym here)) ∙ total_last (take at cells) c

pub count_more : {B : Type 0} (cells : List (CellValue B)) (at : ℕ) (c : CellValue B) → at < length cells → c ≡ get_or cells at c
    → count_over (take (at + 1) cells) ≡ count_over (take at cells) + c.count
count_more {B} cells at c below here =
    sum_by_more (λ (d : CellValue B). d.count) cells at c below ∙ ap (λ (d : CellValue B). count_over (take at cells) + d.count) (sym here)

pub count_part : {B : Type 0} (cells : List (CellValue B)) (at : ℕ) → count_over (take at cells) ≤ count_over cells
count_part {B} cells at = sum_by-take-le (λ (d : CellValue B). d.count) cells at

-- ---- the recordings that they may have together

sum_from : (a : ℤ) (xs : List ℤ) → fold ◌+ℤ◌ a xs ≡ a +ℤ sum_of xs
sum_from a [] = omega (arith, ints)
sum_from a (x ∷ xs) = omega (arith, ints, sum_from (a +ℤ x) xs, sum_from (pos 0 +ℤ x) xs)

sum_of-append : (xs ys : List ℤ) → sum_of (xs ++ ys) ≡ sum_of xs +ℤ sum_of ys
sum_of-append xs ys = fold-append ◌+ℤ◌ (pos 0) xs ys ∙ sum_from (sum_of xs) ys

kept_none : (keeps : Bool) → [] ≡ kept_of keeps []
kept_none true = refl
kept_none false = refl

kept_append : (keeps : Bool) (xs ys : List Entry) → kept_of keeps xs ++ kept_of keeps ys ≡ kept_of keeps (xs ++ ys)
kept_append true xs ys = refl
kept_append false xs ys = refl

-- So many recordings, of this sum, each admitted, of which the books keep all or none.
pub record HaveTogether (keeps : Bool) (own : Facts) (kept : List Entry) (count : ℕ) (total : ℤ) : Type 0 where
  pub accepted : List Entry
  pub all_kept : kept ≡ kept_of keeps accepted
  pub counted : length accepted ≡ count
  pub summed : sum_of (values accepted) ≡ total
  pub admitted : are_admitted own accepted ≡ true

one_more : {B : Type 0} (standing : B → Standing) (kept : B → List Entry) (keeps : Bool) (own : Facts) (c : CellValue B) (cells : List (CellValue B))
    → KeepsAllOrNothing (standing c.book) keeps (kept c.book) → CellKept standing c → c.facts ≡ own
    → HaveTogether keeps own (kept_by kept cells) (count_over cells) (total_over cells)
    → HaveTogether keeps own (kept_by kept (c ∷ cells)) (count_over (c ∷ cells)) (total_over (c ∷ cells))
one_more {B} standing kept keeps own c cells all k same rest =
    let first : List Entry = k.journal in
    let here : kept c.book ≡ kept_of keeps first = all c.facts first c.marks k.known.book in
    let sound : are_admitted own first ≡ true = subst (λ (f : Facts). are_admitted f first ≡ true) same k.admitted in
    record {
      accepted = first ++ rest.accepted;
      all_kept = ap (λ (es : List Entry). es ++ kept_by kept cells) here ∙ ap (λ (es : List Entry). kept_of keeps first ++ es) rest.all_kept ∙ kept_append keeps first rest.accepted;
      counted = omega (arith, length-append first rest.accepted, k.known.counted, rest.counted, sum_by-cons (λ (d : CellValue B). d.count) c cells);
      summed = ap sum_of (map-append (λ (e : Entry). e.value) first rest.accepted) ∙ sum_of-append (values first) (values rest.accepted)
          ∙ ap (λ (n : ℤ). n +ℤ sum_of (values rest.accepted)) (sym k.known.summed) ∙ ap (λ (n : ℤ). c.total +ℤ n) rest.summed;
      admitted = list_all-append (is_admitted own) first rest.accepted ∙ ap (λ (b : Bool). b && are_admitted own rest.accepted) sound ∙ rest.admitted;
    }

have_together : {B : Type 0} (standing : B → Standing) (kept : B → List Entry) (keeps : Bool) (own : Facts) (cells : List (CellValue B))
    → ((book : B) → KeepsAllOrNothing (standing book) keeps (kept book)) → All (CellKept standing) cells → All (λ (c : CellValue B). c.facts ≡ own) cells
    → HaveTogether keeps own (kept_by kept cells) (count_over cells) (total_over cells)
have_together standing kept keeps own [] all each same = record { accepted = []; all_kept = kept_none keeps; counted = refl; summed = refl; admitted = refl }
have_together {B} standing kept keeps own (c ∷ cells) all each same =
    one_more standing kept keeps own c cells (all c.book) (All-head (CellKept standing) c cells each) (All-head (λ (d : CellValue B). d.facts ≡ own) c cells same)
    (have_together standing kept keeps own cells all (All-tail (CellKept standing) c cells each) (All-tail (λ (d : CellValue B). d.facts ≡ own) c cells same))

-- the entries that their books keep are a journal as told, where all recorders have seats
pub told_journal : {B : Type 0} (standing : B → Standing) (kept : B → List Entry) (keeps whole : Bool) (own : Facts) (cells : List (CellValue B)) (seats : List RecorderValue) (i : ℕ) (journal : List Entry)
    → ((book : B) → KeepsAllOrNothing (standing book) keeps (kept book)) → All (CellKept standing) cells → All (λ (c : CellValue B). c.facts ≡ own) cells
    → journal ≡ kept_by kept cells → IsToldBy whole number_of (told_on i) (numbers_over own.lo cells) seats → whole ≡ true → IsToldJournal keeps own seats i journal
told_journal standing kept keeps true own cells seats i journal all each same of told is =
    let have = have_together standing kept keeps own cells all each same in
    record {
      accepted = have.accepted;
      kept = of ∙ have.all_kept;
      counted = have.counted ∙ told.count;
      summed = have.summed ∙ told.sum;
      admitted = have.admitted;
    }
told_journal standing kept keeps false own cells seats i journal all each same of told is = absurd cc
