-- Batches that are exported in order up to the first that is refused, and what became of them over many calls.
use Rattle.std.proofs.Common.{◌≡◌, ℕ, ◌+◌, ◌<◌, List, [], ◌∷◌, ◌++◌, length, get_or, take, drop, refl, sym, ap, subst, ◌∙◌, append_assoc, append-nil, take-append-drop}
use Rattle.std.proofs.lemmas.List.{drop-drop, take_more}
use Rattle.std.specs.Prelude.{flat_map}
use Rattle.metric_history.specs.declared.batch.Batch.{Batch}
use Rattle.metric_export.specs.Handings.{Exporting, TakesEach, TakesOne}
use Rattle.metric_export.specs.Queues.{IsAccounted, entered_by, gone_by, kept_after, queue_of}

-- ---- batches that were taken

-- some, and then others
takes_append : {E : Type 0} (exports : Exporting E) (a b c : E) (xs ys : List Batch) → TakesEach exports a b xs → TakesEach exports b c ys
    → TakesEach exports a c (xs ++ ys)
takes_append {E} exports a b c [] ys p q = subst (λ (start : E). TakesEach exports start c ys) p q
takes_append exports a b c (x ∷ xs) ys p q = (p.0, (p.1.0, takes_append exports p.0 b c xs ys p.1.1 q))

-- one more
pub next_taken : {E : Type 0} (exports : Exporting E) (a b c : E) (batches : List Batch) (i : ℕ) (batch : Batch) → i < length batches
    → batch ≡ get_or batches i batch → TakesEach exports a b (take i batches) → TakesOne exports b c batch
    → TakesEach exports a c (take (i + 1) batches)
next_taken exports a b c batches i batch within is p call =
    let more : TakesEach exports a c (take i batches ++ batch ∷ []) = takes_append exports a b c (take i batches) (batch ∷ []) p (c, (call, refl)) in
    let same : take i batches ++ batch ∷ [] ≡ take (i + 1) batches = rw (take_more batches i batch within, ← is) refl in
    subst (TakesEach exports a c) same more

-- ---- many calls

-- a list in three parts
parts : {X : Type 0} (n k : ℕ) (xs : List X) → (take n xs ++ take k (drop n xs)) ++ drop (n + k) xs ≡ xs
parts n k xs =
    let behind = ap (λ (l : List _). take k (drop n xs) ++ l) (sym (drop-drop k n xs)) ∙ take-append-drop k (drop n xs) in
    append_assoc (take n xs) (take k (drop n xs)) (drop (n + k) xs) ∙ ap (λ (l : List _). take n xs ++ l) behind ∙ take-append-drop n xs

pub accounted : IsAccounted
accounted kept [] run = append-nil kept
accounted kept (call ∷ calls) run =
    let rest = flat_map entered_by calls in
    let whole : gone_by call ++ call.after ≡ kept ++ entered_by call =
    ap (λ (l : List _). gone_by call ++ l) run.1.0 ∙ parts call.sent call.lost (queue_of call)
    ∙ ap (λ (l : List _). l ++ entered_by call) run.0 in
    let later : call.after ++ rest ≡ flat_map gone_by calls ++ kept_after call.after calls = accounted call.after calls run.1.1 in
    sym (append_assoc kept (entered_by call) rest) ∙ ap (λ (l : List _). l ++ rest) (sym whole) ∙ append_assoc (gone_by call) call.after rest
    ∙ ap (λ (l : List _). gone_by call ++ l) later ∙ sym (append_assoc (gone_by call) (flat_map gone_by calls) (kept_after call.after calls))
