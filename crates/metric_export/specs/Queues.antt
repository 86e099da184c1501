-- An exporter that keeps the batches which another one refused.
use Rattle.std.specs.Prelude.{◌≡◌, ◌≢◌, ◌+◌, ◌-◌, ◌*◌, ◌||◌, ◌==◌, ℕ, min, Bool, true, false, List, [], ◌∷◌, ◌++◌, length}
use Rattle.std.specs.Prelude.{if◌then◌else◌, take, drop, flat_map, is_none, Option, Some, None, Result, Ok, Err}
use Rattle.std.specs.Option.{option_or}
use Rattle.metric_io.specs.Counts.{higher_count, next_count}
use Rattle.metric_history.specs.declared.batch.Batch.{Batch}
use Rattle.metric_plan.specs.Plans.{PlanValue}
use Rattle.metric_export.specs.ExporterCalls.{IsExport, IsFlush, IsRetry, IsShutdown}
use Rattle.metric_export.specs.Exports.{is_taken, refuses}
use Rattle.metric_export.specs.Handings.{Answering, Exporting, HandsOnInOrder}
use Rattle.metric_export.specs.States.{Admits}
use Rattle.metric_export.specs.declared.exporter.MetricExporter as exporter
use Rattle.metric_export.specs.declared.fault.ExportFault.{ExportFault}
use Rattle.metric_export.specs.declared.fault.ExportFault.TheVariants as fault
use Rattle.metric_export.specs.declared.state.ExporterState.{ExporterState}
use Rattle.metric_export.specs.declared.state.ExporterState.TheVariants.{Open, ShutDown}

-- An exporter that keeps batches, as contracts see it: the exporter below it; the batches that are
-- kept, the oldest first, and how many may be; how many exports in a row only keep their batch after
-- a try that failed, and how many of these are still to come; its state; and counts: of the batches
-- that went out, of those that were dropped since more may not be kept, of those that were refused
-- and not kept, and of the calls in which the device failed.
pub record QueuedValue (E : Type 0) : Type 0 where
  pub inner : E
  pub kept : List Batch
  pub most : ℕ
  pub pause : ℕ
  pub wait : ℕ
  pub state : ExporterState
  pub sent : ℕ
  pub dropped : ℕ
  pub unkept : ℕ
  pub failures : ℕ

-- a queue that keeps these batches, and has done nothing yet
abbrev pub new_queue : {E : Type 0} → E → List Batch → ℕ → QueuedValue E
new_queue inner kept most = record {
  inner = inner;
  kept = kept;
  most = most;
  pause = 0;
  wait = 0;
  state = Open;
  sent = 0;
  dropped = 0;
  unkept = 0;
  failures = 0;
}

-- ---- one try

-- what a try of the new batch came to, by why the kept ones stopped: where they did, it was not tried
abbrev pub TriesLast : {E : Type 0} → Exporting E → E → E → Batch → ℕ → Option ExportFault → ℕ
    → Result (Unit {0}) ExportFault → Type 0
TriesLast exports old new batch taken (Some why) sent told =
    (new ≡ old) × ((sent ≡ taken) × (told ≡ Err why))
TriesLast exports old new batch taken None sent told =
    exports old new batch told × (sent ≡ (if is_taken told then taken + 1 else taken))

-- The kept batches were handed on in order, up to the first that was refused, and then the new one,
-- where none was. So many went out, and this is what the last call answered.
pub record TriesAll {E : Type 0}
    (exports : Exporting E)
    (old new : E)
    (kept : List Batch)
    (batch : Batch)
    (sent : ℕ)
    (told : Result (Unit {0}) ExportFault) : Type 0 where
  pub mid : E
  pub taken : ℕ
  pub refused : Option ExportFault
  pub first : HandsOnInOrder exports old mid kept taken refused
  pub last : TriesLast exports mid new batch taken refused sent told

-- whether a try is due: no export is to be let pass, or nothing is kept
abbrev pub is_due : ℕ → List Batch → Bool
is_due wait kept = (wait == 0) || (length kept == 0)

-- that is tried only where it is due, else nothing is done
abbrev pub TriesWhenDue : {E : Type 0} → Bool → Exporting E → E → E → List Batch → Batch → ℕ
    → Result (Unit {0}) ExportFault → Type 0
TriesWhenDue true exports old new kept batch sent told =
    TriesAll exports old new kept batch sent told
TriesWhenDue false exports old new kept batch sent told =
    (new ≡ old) × ((sent ≡ 0) × (told ≡ Err fault.Memory))

-- ---- the pause between tries

-- a pause after another try that failed: 1, 3, 7 and so on, up to 63 exports
abbrev pub longer : ℕ → ℕ
longer pause = min (2 * pause + 1) 63

-- the pause after a try, and how many exports are then to be let pass
abbrev pub paused : ℕ → Bool → ℕ
paused pause true = 0
paused pause false = longer pause

-- the same after an export, by whether a try was due
abbrev pub pause_after : Bool → ℕ → Bool → ℕ
pause_after true pause taken = paused pause taken
pause_after false pause taken = pause

abbrev pub wait_after : Bool → ℕ → ℕ → Bool → ℕ
wait_after true wait pause taken = paused pause taken
wait_after false wait pause taken = wait - 1

-- ---- one export

-- what a batch adds to those that are kept, by whether there is memory to keep it
abbrev pub entered : Bool → Batch → List Batch
entered true batch = batch ∷ []
entered false batch = []

-- how many batches more were not kept
abbrev pub kept_out : Bool → ℕ
kept_out true = 0
kept_out false = 1

-- the failures of the device after a call with an answer
abbrev pub failures_after : ℕ → Result (Unit {0}) ExportFault → ℕ
failures_after failures (Ok done) = failures
failures_after failures (Err fault.Write) = next_count failures
failures_after failures (Err fault.ShutDown) = failures
failures_after failures (Err fault.Memory) = failures
failures_after failures (Err fault.Kept) = failures
failures_after failures (Err fault.OtherPlan) = failures
failures_after failures (Err fault.OtherReader) = failures

-- what a queue answers: what the exporter below answered where the batch went on to that, else
-- whether it is kept
abbrev pub answered : Result (Unit {0}) ExportFault → Bool → Result (Unit {0}) ExportFault
answered told is_in =
    if is_taken told then told else (if is_in then Err fault.Kept else Err fault.Memory)

-- A batch was handed in to a queue that takes calls: those that were kept and then the new one were
-- exported in order up to the first that was refused, unless this export was to be let pass. What is
-- left is kept, but for the oldest that are more than may be kept. Only a batch that did not go out
-- is not kept: because memory ran out or none may be kept.
pub record HandsInOpen {E : Type 0}
    (exports : Exporting E)
    (old new : QueuedValue E)
    (batch : Batch)
    (answer : Result (Unit {0}) ExportFault) : Type 0 where
  pub sent : ℕ
  pub told : Result (Unit {0}) ExportFault
  pub lost : ℕ
  pub is_in : Bool
  pub tries : TriesWhenDue (is_due old.wait old.kept) exports old.inner new.inner old.kept batch
      sent told
  pub in_where_sent : is_taken told ≡ true → is_in ≡ true
  pub none_may : is_taken told ≡ false → old.most ≡ 0 → is_in ≡ false
  pub lost_is : lost ≡ length (old.kept ++ entered is_in batch) - sent - old.most
  pub kept : new.kept ≡ drop (sent + lost) (old.kept ++ entered is_in batch)
  pub answer_is : answer ≡ answered told is_in
  pub pause : new.pause ≡ pause_after (is_due old.wait old.kept) old.pause (is_taken told)
  pub wait : new.wait ≡ wait_after (is_due old.wait old.kept) old.wait old.pause (is_taken told)
  pub counted_sent : new.sent ≡ higher_count old.sent sent
  pub counted_dropped : new.dropped ≡ higher_count old.dropped lost
  pub counted_unkept : new.unkept ≡ higher_count old.unkept (kept_out is_in)
  pub failures : new.failures ≡ failures_after old.failures told
  pub most : new.most ≡ old.most
  pub state : new.state ≡ old.state

-- by what the first of some batches is refused that is, by an exporter that takes those of these readers
abbrev pub refuses_any : (ℕ → ℕ → Bool) → PlanValue → List Batch → Option ExportFault
refuses_any takes plan [] = None
refuses_any takes plan (batch ∷ batches) =
    option_or (refuses takes plan batch) (refuses_any takes plan batches)

-- # what a queue does (profile) [HandsIn, TriesAll, is_due, longer, RetriesKept, PassesFlush,
-- PassesShutdown]
-- Batches are exported in order, each once, up to the first that is refused, unless it lets an
-- export pass; what is left is kept, but for the oldest that are more than may be kept, and for a
-- batch for which memory runs out. A new try exports all that is kept at once. Neither does anything
-- where one of these is of another plan, or of a reader whose batches the exporter below does not take.
pub record HandsIn {E : Type 0} (by : exporter.Ghosts E)
    (old new : QueuedValue E)
    (plan : PlanValue)
    (batch : Batch)
    (answer : Result (Unit {0}) ExportFault) : Type 0 where
  pub when_open : old.state ≡ Open
      → refuses_any (by.takes old.inner) plan (batch ∷ old.kept) ≡ None
      → HandsInOpen (IsExport by plan) old new batch answer
  pub when_other : old.state ≡ Open → (why : ExportFault)
      → refuses_any (by.takes old.inner) plan (batch ∷ old.kept) ≡ Some why
      → (answer ≡ Err why) × (new ≡ old)
  pub when_shut : old.state ≢ Open → new ≡ old

-- ---- one new try of all that is kept

-- what a new try answers: whether something is kept still, else what the exporter below answered
abbrev pub retried : Option ExportFault → Result (Unit {0}) ExportFault
    → Result (Unit {0}) ExportFault
retried (Some why) below = Err fault.Kept
retried None below = below

-- what a queue passes on of an answer of the exporter below: that one may have been shut down
-- before, and the queue was not
abbrev pub passed_on : Result (Unit {0}) ExportFault → Result (Unit {0}) ExportFault
passed_on (Ok done) = Ok done
passed_on (Err fault.Write) = Err fault.Write
passed_on (Err fault.ShutDown) = Err fault.Write
passed_on (Err fault.Memory) = Err fault.Memory
passed_on (Err fault.Kept) = Err fault.Kept
passed_on (Err fault.OtherPlan) = Err fault.OtherPlan
passed_on (Err fault.OtherReader) = Err fault.OtherReader

-- The kept batches were handed on at once, in order, up to the first that was refused, and then the
-- exporter below tried again what it keeps. What is left is kept.
pub record RetriesOpen {E : Type 0}
    (exports : Exporting E)
    (retries : Answering E)
    (old new : QueuedValue E)
    (answer : Result (Unit {0}) ExportFault) : Type 0 where
  pub mid : E
  pub sent : ℕ
  pub refused : Option ExportFault
  pub below : Result (Unit {0}) ExportFault
  pub tries : HandsOnInOrder exports old.inner mid old.kept sent refused
  pub retries_below : retries mid new.inner below
  pub kept : new.kept ≡ drop sent old.kept
  pub answer_is : answer ≡ retried refused (passed_on below)
  pub pause : new.pause ≡ paused old.pause (is_none refused)
  pub wait : new.wait ≡ paused old.pause (is_none refused)
  pub counted_sent : new.sent ≡ higher_count old.sent sent
  pub dropped : new.dropped ≡ old.dropped
  pub unkept : new.unkept ≡ old.unkept
  pub failures : new.failures ≡ failures_after old.failures answer
  pub most : new.most ≡ old.most
  pub state : new.state ≡ old.state

-- One call of `retry`: where the queue was shut down, nothing is done; nor is anything where a batch
-- that is kept is of another plan or reader.
pub record RetriesKept {E : Type 0} (by : exporter.Ghosts E)
    (old new : QueuedValue E)
    (plan : PlanValue)
    (answer : Result (Unit {0}) ExportFault) : Type 0 where
  pub when_open : old.state ≡ Open → refuses_any (by.takes old.inner) plan old.kept ≡ None
      → RetriesOpen (IsExport by plan) (IsRetry by plan) old new answer
  pub when_other : old.state ≡ Open → (why : ExportFault)
      → refuses_any (by.takes old.inner) plan old.kept ≡ Some why
      → (answer ≡ Err why) × (new ≡ old)
  pub when_shut : old.state ≢ Open → (new ≡ old) × Admits old.state answer

-- ---- calls that are passed on

-- The exporter below was called once, and what is kept stays.
pub record PassesOnce {E : Type 0}
    (gives : Answering E)
    (old new : QueuedValue E)
    (state : ExporterState)
    (answer : Result (Unit {0}) ExportFault) : Type 0 where
  pub told : Result (Unit {0}) ExportFault
  pub call : gives old.inner new.inner told
  pub answer_is : answer ≡ passed_on told
  pub kept : new ≡ record old {
    inner = new.inner;
    failures = failures_after old.failures answer;
    state = state;
  }

-- A flush is passed on to the exporter below, once, unless the queue was shut down.
pub record PassesFlush {E : Type 0} (by : exporter.Ghosts E)
    (old new : QueuedValue E)
    (answer : Result (Unit {0}) ExportFault) : Type 0 where
  pub passed : old.state ≡ Open → PassesOnce (IsFlush by) old new old.state answer
  pub unpassed : old.state ≢ Open → new ≡ old

-- So is a shutdown, after which the queue is shut down too.
pub record PassesShutdown {E : Type 0} (by : exporter.Ghosts E)
    (old new : QueuedValue E)
    (answer : Result (Unit {0}) ExportFault) : Type 0 where
  pub passed : old.state ≡ Open → PassesOnce (IsShutdown by) old new ShutDown answer
  pub unpassed : old.state ≢ Open → new ≡ record old { state = ShutDown }

-- ---- many calls

-- A call that handed a batch in, as `HandsInOpen` tells of it: what was kept before and after
-- it, whether the batch went out or was kept, how many went out, the oldest first, and
-- how many of the next were dropped. A new try is such a call by which no batch came in.
pub record HandedIn : Type 0 where
  pub before : List Batch
  pub batch : Batch
  pub is_in : Bool
  pub sent : ℕ
  pub lost : ℕ
  pub after : List Batch

-- what a call adds to the queue
abbrev pub entered_by : HandedIn → List Batch
entered_by call = entered call.is_in call.batch

-- all that such a call has before it
abbrev pub queue_of : HandedIn → List Batch
queue_of call = call.before ++ entered_by call

-- the batches that a call took from the queue: first those that went
-- out, then those that were dropped
abbrev pub gone_by : HandedIn → List Batch
gone_by call = take call.sent (queue_of call) ++ take call.lost (drop call.sent (queue_of call))

-- # runs of a queue (profile) [HandsInEach, IsAccounted]
-- What a queue was begun with and what entered it is, in order, what went out or was dropped by one
-- call after the other, and then what is kept.
abbrev pub HandsInEach : List Batch → List HandedIn → Type 0
HandsInEach kept [] = Unit {0}
HandsInEach kept (call ∷ calls) =
    (call.before ≡ kept)
    × ((call.after ≡ drop (call.sent + call.lost) (queue_of call)) × HandsInEach call.after calls)

-- what is kept after them
abbrev pub kept_after : List Batch → List HandedIn → List Batch
kept_after kept [] = kept
kept_after kept (call ∷ calls) = kept_after call.after calls

-- the batches with which a queue was begun and those that entered it are, in order, those that went
-- out or were dropped by one call after the other, and then those that are kept
abbrev pub IsAccounted : Type 0
IsAccounted =
    (kept : List Batch) (calls : List HandedIn) → HandsInEach kept calls
    → kept ++ flat_map entered_by calls ≡ flat_map gone_by calls ++ kept_after kept calls
