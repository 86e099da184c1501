-- An exporter that is called for batches, one after the other.
use Rattle.std.proofs.Common.{◌≡◌, Ok, Err, ℕ, ◌+◌, ◌<◌, ◌≤◌, List, [], ◌∷◌, ◌++◌, Result, length, get_or, take, subst, refl}
use Rattle.std.proofs.lemmas.List.{take_all, take_more}
use Rattle.std.specs.Result.{result_err}
use Rattle.metric_periodic.specs.Outlets.{answer_of}
use Rattle.metric_history.specs.declared.batch.Batch.{Batch}
use Rattle.metric_export.specs.declared.fault.ExportFault.{ExportFault}
use Rattle.metric_periodic.specs.Counts.{delayed_after, exported_after, refused_after}
use Rattle.metric_export.specs.Handings.{Answering, Exporting}
use Rattle.metric_periodic.specs.Exported.{Answered, ExportsEach, ExportsOne, Flushes, Retries, ShutsDown, Tally, failed_after}

-- one call, and its answer counted
pub one_exported : {E : Type 0} (exports : Exporting E) (a b : Tally E) (batch : Batch) (answer : Result (Unit {0}) ExportFault)
    → exports a.exporter b.exporter batch answer → b.exported ≡ exported_after a.exported answer → b.failed ≡ refused_after a.failed answer
    → b.delayed ≡ delayed_after a.delayed answer → b.refused ≡ a.refused → b.unflushed ≡ a.unflushed → Answered exports a b batch answer
one_exported exports a b batch answer call exported failed delayed refused unflushed = (
  record { answer = answer; call = call; exported = exported; failed = failed; delayed = delayed; refused = refused; unflushed = unflushed },
  refl,
)

-- a new try of what the exporter keeps
pub retried_counted : {E : Type 0} (retries : Answering E) (a b : Tally E)
    (answer : Result (Unit {0}) ExportFault) → retries a.exporter b.exporter answer → b ≡ record a { exporter = b.exporter } → Retries retries a b answer
retried_counted retries a b answer call counts = (record { answer = answer; call = call; counts = counts }, refl)

-- a flush, and its failure counted
pub flushed_counted : {E : Type 0} (flushes : Answering E) (a b : Tally E)
    (answer : Result (Unit {0}) ExportFault) → flushes a.exporter b.exporter answer → b.exported ≡ a.exported
    → b.failed ≡ a.failed → b.delayed ≡ a.delayed → b.refused ≡ a.refused → b.unflushed ≡ failed_after a.unflushed answer → Flushes flushes a b answer
flushed_counted flushes a b answer call exported failed delayed refused unflushed = (
  record { answer = answer; call = call; exported = exported; failed = failed; delayed = delayed; refused = refused; unflushed = unflushed },
  refl,
)

-- a shutdown, and its failure counted
pub shut_down_counted : {E : Type 0} (shuts_down : Answering E) (a b : Tally E)
    (answer : Result (Unit {0}) ExportFault) → shuts_down a.exporter b.exporter answer → b.exported ≡ a.exported
    → b.failed ≡ failed_after a.failed answer → b.delayed ≡ a.delayed → b.refused ≡ a.refused → b.unflushed ≡ a.unflushed → ShutsDown shuts_down a b
shut_down_counted shuts_down a b answer call exported failed delayed refused unflushed =
    record { answer = answer; call = call; exported = exported; failed = failed; delayed = delayed; refused = refused; unflushed = unflushed }

-- the calls for some batches, and then for others
pub all_exported : {E : Type 0} (exports : Exporting E) (a b c : Tally E) (xs ys : List Batch) → ExportsEach exports a b xs → ExportsEach exports b c ys
    → ExportsEach exports a c (xs ++ ys)
all_exported {E} exports a b c [] ys p q = subst (λ (start : Tally E). ExportsEach exports start c ys) p q
all_exported exports a b c (x ∷ xs) ys p q = (p.0, (p.1.0, all_exported exports p.0 b c xs ys p.1.1 q))

-- one batch more of a list
pub next_exported : {E : Type 0} (exports : Exporting E) (a b c : Tally E) (batches : List Batch) (i : ℕ) (batch : Batch) → i < length batches
    → batch ≡ get_or batches i batch → ExportsEach exports a b (take i batches) → ExportsOne exports b c batch
    → ExportsEach exports a c (take (i + 1) batches)
next_exported exports a b c batches i batch within is p q =
    let more : ExportsEach exports a c (take i batches ++ batch ∷ []) = all_exported exports a b c (take i batches) (batch ∷ []) p (c, (q, refl)) in
    let same : take i batches ++ batch ∷ [] ≡ take (i + 1) batches = rw (take_more batches i batch within, ← is) refl in
    subst (ExportsEach exports a c) same more

-- all of a list
pub all_taken : {E : Type 0} (exports : Exporting E) (a b : Tally E) (batches : List Batch) (i : ℕ) → length batches ≤ i
    → ExportsEach exports a b (take i batches) → ExportsEach exports a b batches
all_taken exports a b batches i over p = subst (ExportsEach exports a b) (take_all i batches over) p

-- an answer, by its fault
pub answer_of_fault : (answer : Result (Unit {0}) ExportFault) → answer_of (result_err answer) ≡ answer
answer_of_fault (Ok done) = refl
answer_of_fault (Err fault) = refl
