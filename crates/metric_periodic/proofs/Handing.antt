-- What a run hands on, by the calls of the exporter that it makes.
use Rattle.std.proofs.Common.{◌≡◌, ◌⊎◌, ◌||◌, Bool, true, false, ℕ, ◌<◌, zero, suc, List, [], ◌∷◌, ◌++◌, Option, Some, None, IsSome, map, Result, Ok, Err, inl, inr, ap, sym, ◌∙◌, subst, refl, arith, rules}
use Rattle.metric_io.specs.Counts.{next_count}
use Rattle.std.specs.Io.KnownBytes.{Keeps}
use Rattle.metric_export.specs.Exports.{Exports}
use Rattle.metric_export.specs.declared.fault.ExportFault.{ExportFault}
use Rattle.metric_periodic.specs.declared.tick.StopCause.{StopCause}
use Rattle.metric_history.specs.declared.batch.Batch.{Batch}
use Rattle.metric_seat.specs.Seats.{CollectorValue, ProviderValue}
use Rattle.metric_periodic.specs.Collections.{Collected, CollectsLast}
use Rattle.metric_periodic.specs.Counts.{AreCalls, Handed, HandsOn, HandsOnNothing, HandsOnToEnd, handed}
use Rattle.metric_export.specs.ExporterCalls.{Calls}
use Rattle.metric_export.specs.Handings.{Answering, Exporting}
use Rattle.metric_periodic.specs.Exported.{ExportsCollected, ExportsEach, HandsOnCollected, IsFlushed, IsRetried, RetriesWhere, Tally, failed_after, gave_none}
use Rattle.metric_periodic.specs.Runs.{IsRun}
use Rattle.metric_periodic.specs.Ticks.{is_woken}
use Rattle.metric_periodic.specs.Turns.{AreTurns, Giving, Progress}

-- ---- calls one after the other

hands_on_none : (text : Batch → List ℕ) (a : Handed) → HandsOn text a a
hands_on_none text a = record { calls = []; are = refl }

-- some, and then others
all_calls : (text : Batch → List ℕ) (a b c : Handed) (xs ys : List (Option Batch)) → AreCalls text a b xs → AreCalls text b c ys
    → AreCalls text a c (xs ++ ys)
all_calls text a b c [] ys p q = subst (λ (h : Handed). AreCalls text h c ys) p q
all_calls text a b c (x ∷ xs) ys p q = (p.0, (p.1.0, all_calls text p.0 b c xs ys p.1.1 q))

hands_on_more : (text : Batch → List ℕ) (a b c : Handed) → HandsOn text a b → HandsOn text b c → HandsOn text a c
hands_on_more text a b c p q = record { calls = p.calls ++ q.calls; are = all_calls text a b c p.calls q.calls p.are q.are }

hands_on_nothing : (text : Batch → List ℕ) (a b : Handed) → HandsOnNothing a b → HandsOn text a b
hands_on_nothing text a b p = record { calls = None ∷ []; are = (b, (p, refl)) }

-- ---- the calls of an exporter hand on

-- the calls for these batches
abbrev pub for_each : List Batch → List (Option Batch)
for_each batches = map (λ (batch : Batch). Some batch) batches

-- what an exporter handed on, with its counts
abbrev pub shown : {E : Type 0} → (E → Option (List ℕ)) → Tally E → Handed
shown contents counts = handed (contents counts.exporter) counts.exported counts.failed counts.delayed

-- what is said of a call of `export` tells what was appended, and that the exporter's text stays what it was
abbrev pub Appending : {E : Type 0} → Exporting E → (E → Batch → List ℕ) → (E → Option (List ℕ)) → Type 0
Appending {E} exports text contents = (old new : E) (batch : Batch) (answer : Result (Unit {0}) ExportFault) → exports old new batch answer
    → Exports (contents old) (contents new) (text old batch) answer × (text new ≡ text old)

handed_each : {E : Type 0} (exports : Exporting E) (text : E → Batch → List ℕ) (contents : E → Option (List ℕ)) → Appending exports text contents
    → (t : Batch → List ℕ) (a b : Tally E) (batches : List Batch) → text a.exporter ≡ t → ExportsEach exports a b batches
    → AreCalls t (shown contents a) (shown contents b) (for_each batches) × (text b.exporter ≡ t)
handed_each {E} exports text contents appending t a b [] is p =
    (ap (shown contents) p, ap (λ (counts : Tally E). text counts.exporter) p ∙ is)
handed_each exports text contents appending t a b (batch ∷ batches) is p =
    let one = p.1.0 in
    let call = appending _ _ _ _ one.call in
    let rest = handed_each exports text contents appending t p.0 b batches (call.1 ∙ is) p.1.1 in (
      (
        shown contents p.0,
        (
          record {
            answer = one.answer;
            exports = subst (λ (f : Batch → List ℕ). Exports (contents a.exporter) (contents p.0.exporter) (f batch) one.answer) is call.0;
            exported = one.exported;
            failed = one.failed;
            delayed = one.delayed;
          },
          rest.0,
        ),
      ),
      rest.1,
    )

handed_collected : {E : Type 0} (exports : Exporting E) (text : E → Batch → List ℕ) (contents : E → Option (List ℕ)) → Appending exports text contents
    → (t : Batch → List ℕ) (a b : Tally E) (collected : Collected) → text a.exporter ≡ t → ExportsCollected exports a b collected
    → HandsOn t (shown contents a) (shown contents b) × (text b.exporter ≡ t)
handed_collected exports text contents appending t a b (Ok batches) is p =
    let each = handed_each exports text contents appending t a b batches.items is p in
    (record { calls = for_each batches.items; are = each.0 }, each.1)
handed_collected exports text contents appending t a b (Err fault) is p =
    let each = handed_each exports text contents appending t (record a { refused = next_count a.refused }) b fault.done.items is p in
    (record { calls = for_each fault.done.items; are = each.0 }, each.1)

-- what is said of a call for no batch tells that nothing was appended
abbrev pub Keeping : {E : Type 0} → Answering E → (E → Option (List ℕ)) → Type 0
Keeping {E} gives contents = (old new : E) (answer : Result (Unit {0}) ExportFault) → gives old new answer → Keeps (contents old) (contents new)

handed_nothing : {E : Type 0} (flushes : Answering E) (contents : E → Option (List ℕ)) → Keeping flushes contents
    → (a b : Tally E) → IsFlushed flushes a b → HandsOnNothing (shown contents a) (shown contents b)
handed_nothing flushes contents keeping a b p =
    record { kept = keeping _ _ _ p.call; exported = p.exported; failed = p.failed; delayed = p.delayed }

retried_nothing : {E : Type 0} (retries : Answering E) (contents : E → Option (List ℕ)) → Keeping retries contents
    → (a b : Tally E) → IsRetried retries a b → HandsOnNothing (shown contents a) (shown contents b)
retried_nothing retries contents keeping a b p = record {
  kept = keeping _ _ _ p.call;
  exported = ap (λ (counts : Tally _). counts.exported) p.counts;
  failed = ap (λ (counts : Tally _). counts.failed) p.counts;
  delayed = ap (λ (counts : Tally _). counts.delayed) p.counts;
}

-- nor that the exporter's text changed
abbrev pub SameText : {E : Type 0} → Answering E → (E → Batch → List ℕ) → Type 0
SameText {E} gives text = (old new : E) (answer : Result (Unit {0}) ExportFault) → gives old new answer → text new ≡ text old

-- a new try, where one is made
retried_where : {E : Type 0} (asked : Bool) (retries : Answering E) (text : E → Batch → List ℕ) (contents : E → Option (List ℕ))
    → Keeping retries contents → SameText retries text
    → (t : Batch → List ℕ) (a b : Tally E) → text a.exporter ≡ t → RetriesWhere asked retries a b
    → HandsOn t (shown contents a) (shown contents b) × (text b.exporter ≡ t)
retried_where true retries text contents keeping same t a b is p =
    (hands_on_nothing t _ _ (retried_nothing retries contents keeping a b p), same _ _ _ p.call ∙ is)
retried_where false retries text contents keeping same t a b is p = (
  subst (λ (e : Tally _). HandsOn t (shown contents a) (shown contents e)) (sym p) (hands_on_none t _),
  ap (λ (e : Tally _). text e.exporter) p ∙ is,
)

-- What is said of the calls of an exporter tells what was appended, and that its text stays what it was.
pub record Tells {E : Type 0} (calls : Calls E) (text : E → Batch → List ℕ) (contents : E → Option (List ℕ)) : Type 0 where
  pub appending : Appending calls.exports text contents
  pub flushing : Keeping calls.flushes contents
  pub same_flushing : SameText calls.flushes text
  pub trying : Keeping calls.retries contents
  pub same_trying : SameText calls.retries text
  pub ending : Keeping calls.shuts_down contents

handed_and_flushed : {E : Type 0} (calls : Calls E) (text : E → Batch → List ℕ) (contents : E → Option (List ℕ))
    → Tells calls text contents
    → (t : Batch → List ℕ) (asked : Bool) (a b : Tally E) (collected : Collected) → text a.exporter ≡ t → HandsOnCollected calls asked a b collected
    → HandsOn t (shown contents a) (shown contents b) × (text b.exporter ≡ t)
handed_and_flushed calls text contents tells t asked a b collected is p =
    let first = handed_collected calls.exports text contents tells.appending t a p.between collected is p.exported in
    let tried = retried_where (asked || gave_none collected) calls.retries text contents tells.trying tells.same_trying t p.between p.settled first.1 p.retried in
    let last = hands_on_nothing t _ _ (handed_nothing calls.flushes contents tells.flushing p.settled b p.flushed) in
    (hands_on_more t _ _ _ (hands_on_more t _ _ _ first.0 tried.0) last, tells.same_flushing _ _ _ p.flushed.call ∙ tried.1)

handed_turns : {T E : Type 0} (gives : Giving T) (by : ProviderValue) (calls : Calls E)
    (text : E → Batch → List ℕ) (contents : E → Option (List ℕ)) → Tells calls text contents
    → (t : Batch → List ℕ) (made : ℕ) (start end : Progress T E)
    → text start.counts.exporter ≡ t → AreTurns gives by calls made start end
    → HandsOn t (shown contents start.counts) (shown contents end.counts) × (text end.counts.exporter ≡ t)
handed_turns {T} {E} gives by calls text contents tells t zero start end is p = (
  subst (λ (e : Progress T E). HandsOn t (shown contents start.counts) (shown contents e.counts)) (sym p) (hands_on_none t _),
  ap (λ (e : Progress T E). text e.counts.exporter) p ∙ is,
)
handed_turns gives by calls text contents tells t (suc made) start end is p =
    let turn = p.1.1.collected_at in
    let before = handed_turns gives by calls text contents tells t made start p.0 is p.1.0 in
    let last = handed_and_flushed calls text contents tells t (is_woken p.1.1.tick) p.0.counts end.counts turn.collected before.1 turn.exported in
    (hands_on_more t _ _ _ before.0 last.0, last.1)

-- a shutdown that failed is one failure more
failed_or_not : (old new : ℕ) (answer : Result (Unit {0}) ExportFault) → new ≡ failed_after old answer → (new ≡ old) ⊎ (new ≡ next_count old)
failed_or_not old new (Ok done) p = inl p
failed_or_not old new (Err fault) p = inr p

pub run_hands_on : {T E : Type 0} (gives : Giving T) (by : ProviderValue) (calls : Calls E) (text : E → Batch → List ℕ) (contents : E → Option (List ℕ)) → Tells calls text contents
    → (most : ℕ) (start : Progress T E) (ticker : T) (stopped : Option StopCause) (kept : Option CollectorValue) (counts : Tally E)
    → IsRun gives by calls most start ticker stopped kept counts
    → HandsOnToEnd (text start.counts.exporter) (shown contents start.counts) (shown contents counts)
run_hands_on gives by calls text contents tells most start ticker stopped kept counts run =
    let t = text start.counts.exporter in
    let turns = handed_turns gives by calls text contents tells t run.turns.made start _ refl run.turns.turns in
    let after = handed_collected calls.exports text contents tells.appending t run.after_turns run.before_retry run.collected turns.1 run.exported in
    let tried = hands_on_nothing t _ _ (retried_nothing calls.retries contents tells.trying run.before_retry run.before_shutdown run.retried) in
    record {
      before = shown contents run.before_shutdown;
      hands_on = hands_on_more t _ _ _ (hands_on_more t _ _ _ turns.0 after.0) tried;
      kept = tells.ending _ _ _ run.shut_down.call;
      exported = run.shut_down.exported;
      delayed = run.shut_down.delayed;
      failed = failed_or_not _ _ run.shut_down.answer run.shut_down.failed;
    }

-- ---- a seat that is kept was refused

refused_each : {E : Type 0} (exports : Exporting E) (a b : Tally E) (batches : List Batch) → ExportsEach exports a b batches → b.refused ≡ a.refused
refused_each exports a b [] p = ap (λ (counts : Tally _). counts.refused) p
refused_each exports a b (batch ∷ batches) p = refused_each exports p.0 b batches p.1.1 ∙ p.1.0.refused

refused_some : (old new : ℕ) → new ≡ next_count old → 0 < new
refused_some old new is = omega arith

none_kept : (kept : Option CollectorValue) → kept ≡ None → IsSome kept → ⊥
none_kept None is some = search rules
none_kept (Some seat) is some = cc

refused_kept : {E : Type 0} (exports : Exporting E) (p : ProviderValue) (now : ℕ) (seat : CollectorValue) (kept : Option CollectorValue) (a b : Tally E)
    (collected : Collected) → CollectsLast p now seat kept collected → ExportsCollected exports a b collected → IsSome kept → 0 < b.refused
refused_kept exports p now seat kept a b (Ok batches) collects exported some =
    absurd (none_kept kept collects.1 some)
refused_kept exports p now seat kept a b (Err fault) collects exported some =
    refused_some a.refused b.refused (refused_each exports _ b fault.done.items exported)

pub run_keeps_refused : {T E : Type 0} (gives : Giving T) (calls : Calls E) (p : ProviderValue) (most : ℕ) (start : Progress T E)
    (ticker : T) (stopped : Option StopCause) (kept : Option CollectorValue) (counts : Tally E)
    → IsRun gives p calls most start ticker stopped kept counts → IsSome kept → 0 < counts.refused
run_keeps_refused gives calls p most start ticker stopped kept counts run some =
    let refused : 0 < run.before_retry.refused =
    refused_kept calls.exports p _ run.seat kept run.after_turns run.before_retry run.collected run.collects_at run.exported some in
    let same : counts.refused ≡ run.before_retry.refused = run.shut_down.refused ∙ ap (λ (tally : Tally _). tally.refused) run.retried.counts in
    rw same refused
