-- What the calls of a slot answer.
use Rattle.std.proofs.Common.{◌≡◌, ℕ, ◌+◌, ◌<◌, ◌≤◌, ℤ, true, false, List, [], ◌∷◌, ◌++◌, Result, Ok, Err, length, sym, ap, subst, ◌∙◌, arith}
use Rattle.std.specs.Prelude.{OnOk, max, slice_index, slice_index_or, if◌then◌else◌}
use Rattle.std.proofs.lemmas.List.{length_push}
use Rattle.metric_history.specs.Journals.{Standing}
use Rattle.metric_contents.specs.declared.refusal.Refusal.{Refusal}
use Rattle.metric_contents.specs.declared.refusal.Refusal.TheVariants as refusals
use Rattle.metric_core.specs.BudgetLaws.{has_room, kept_journal}
use Rattle.metric_core.specs.Cells.{CellKept, CellValue}
use Rattle.metric_core.specs.CellAnswers.{AnswersRecording, IsJudged, ReportsBatch, budget_of}
use Rattle.metric_history.specs.declared.batch.Batch.{Batch}
use Rattle.metric_history.specs.declared.batch.StreamPoints.{StreamPoints}
use Rattle.metric_history.specs.declared.entry.Entry.{Entry}
use Rattle.metric_facts.specs.declared.facts.Facts.{Facts}
use Rattle.metric_facts.specs.Facts.{in_bounds, is_allowed_set, is_delta}
use Rattle.metric_history.specs.Windows.{fits_all, window}
use Rattle.metric_history.specs.Points.{reported}
use Rattle.metric_safety.specs.AdmissionLaws.{admitted, admitted_more}
use Rattle.metric_safety.specs.SafeFacts.{IsJournal, IsSafeFacts, total}
use Rattle.metric_safety.specs.WindowBounds.{BoundsReports, FitsJournals, IsReportWithin}
use Rattle.metric_slot.proofs.BudgetLaws.{amount_room, element_le}
use Rattle.metric_slot.specs.declared.seen.Seen.{Seen}
use Rattle.metric_slot.specs.declared.told.Told.{Told}
use Rattle.metric_slot.specs.SlotAnswers.{AnswersRecorder, Continues, ReportsJournal}
use Rattle.metric_slot.specs.Slots.{IsOwnReader, IsOwnRecorder}
use Rattle.metric_slot.specs.Tellings.{HasRoom}

-- what the next recording is to the facts of an instrument
pub record IsNext (facts : Facts) (entry : Entry) : Type 0 where
  pub eight : length entry.set ≡ 8
  pub allowed : is_allowed_set facts entry.set ≡ true
  pub value : in_bounds facts entry.value ≡ true

-- the recordings of a cell with one more
journal_more : {B : Type 0} (stands : B → Standing) (c : CellValue B) (k : CellKept stands c) (entry : Entry)
    → slice_index c.spent entry.recorder < budget_of c entry.recorder → IsNext c.facts entry → IsJournal c.facts (k.journal ++ entry ∷ [])
journal_more stands c k entry left next = record {
  admitted = admitted_more c.facts k.journal entry k.admitted (admitted c.facts entry next.eight next.allowed next.value);
  budgeted = omega (arith, length_push k.journal entry, k.known.counted, has_room stands c entry.recorder k left);
}

-- no recording takes a sum out of range
never_out_of_range : {B : Type 0} (stands : B → Standing) (c : CellValue B) (entry : Entry) → FitsJournals → IsSafeFacts c.facts → CellKept stands c
    → IsNext c.facts entry → IsJudged stands c entry false → ⊥
never_out_of_range stands c entry law safe k next judged =
    let fits : fits_all c.facts (slice_index c.marks) k.journal entry ≡ true = law c.facts k.journal entry (slice_index c.marks) safe (journal_more stands c k entry judged.has_budget next) in
    let out : fits_all c.facts (slice_index c.marks) k.journal entry ≡ false = judged.fitting k.journal k.known in
    absurd cc

pub recorder_answers : {B : Type 0} (stands : B → Standing) (c : CellValue B) (own : Facts) (told : Told) (entry : Entry) (result : Result (Unit {0}) Refusal)
    → FitsJournals → IsSafeFacts c.facts → CellKept stands c → IsOwnRecorder c own told entry.recorder → IsNext own entry
    → AnswersRecording stands c entry result → AnswersRecorder stands c own told entry result
recorder_answers stands c own told entry (Ok done) law safe k mine next answer = (mine, answer)
recorder_answers stands c own told entry (Err refusals.Stranger) law safe k mine next answer = absurd answer
recorder_answers stands c own told entry (Err refusals.UnknownInstrument) law safe k mine next answer = absurd answer
recorder_answers stands c own told entry (Err refusals.UnknownRecorder) law safe k mine next answer = absurd answer
recorder_answers stands c own told entry (Err refusals.UnknownReader) law safe k mine next answer = absurd answer
recorder_answers stands c own told entry (Err refusals.DuplicateKey) law safe k mine next answer = absurd answer
recorder_answers stands c own told entry (Err refusals.UnknownKey) law safe k mine next answer = absurd answer
recorder_answers stands c own told entry (Err refusals.UnknownValue) law safe k mine next answer = absurd answer
recorder_answers stands c own told entry (Err refusals.MissingKey) law safe k mine next answer = absurd answer
recorder_answers stands c own told entry (Err refusals.Combination) law safe k mine next answer = absurd answer
recorder_answers stands c own told entry (Err refusals.ValueRange) law safe k mine next answer = absurd answer
recorder_answers stands c own told entry (Err refusals.Closed) law safe k mine next answer = (mine, answer)
recorder_answers stands c own told entry (Err refusals.Budget) law safe k mine next answer = (mine, answer)
recorder_answers stands c own told entry (Err refusals.NoSpare) law safe k mine next answer = absurd answer
recorder_answers stands c own told entry (Err refusals.SumRange) law safe k mine next answer =
    never_out_of_range stands c entry law safe k (subst (λ (f : Facts). IsNext f entry) (sym mine.facts) next) answer
recorder_answers stands c own told entry (Err refusals.Memory) law safe k mine next answer = (mine, answer)

-- what a recorder is told of has room for one recording more
pub told_room : {B : Type 0} (stands : B → Standing) (c : CellValue B) (own : Facts) (told : Told) (recorder : ℕ) (value : ℤ)
    → IsSafeFacts c.facts → CellKept stands c → IsOwnRecorder c own told recorder
    → slice_index c.spent recorder < budget_of c recorder → in_bounds own value ≡ true
    → HasRoom told own.lo value
told_room stands c own told recorder value safe k mine left within =
    let counted : told.count + 1 ≤ total c.facts = omega (arith, mine.spent, element_le c.spent recorder, k.counted, has_room stands c recorder k left) in
    record {
      count = omega (arith, k.budgeted);
      amount = amount_room own told.count told.amount value (subst IsSafeFacts mine.facts safe) (subst (λ (f : Facts). told.count + 1 ≤ total f) mine.facts counted) mine.amount within;
    }

pub answer_room : {B : Type 0} (stands : B → Standing) (c : CellValue B) (own : Facts) (told : Told) (entry : Entry) (result : Result (Unit {0}) Refusal)
    → IsSafeFacts c.facts → CellKept stands c → IsOwnRecorder c own told entry.recorder → in_bounds own entry.value ≡ true
    → AnswersRecording stands c entry result → OnOk result (HasRoom told own.lo entry.value)
answer_room stands c own told entry (Ok done) safe k mine within judged = told_room stands c own told entry.recorder entry.value safe k mine judged.has_budget within
answer_room stands c own told entry (Err refusal) safe k mine within judged = tt

-- what a reader is told is within the bounds
pub batch_within : {B : Type 0} (stands : B → Standing) (c : CellValue B) (own : Facts) (reader now : ℕ) (told : Batch)
    → BoundsReports → IsSafeFacts c.facts → CellKept stands c → c.facts ≡ own → ReportsBatch stands c reader now told
    → IsReportWithin own told.from told.mark told.streams
batch_within stands c own reader now told law safe k same reports =
    subst (λ (f : Facts). IsReportWithin f told.from told.mark told.streams) same
    (subst (λ (b : Batch). IsReportWithin c.facts b.from b.mark b.streams) (sym (reports k.journal k.known))
    (law c.facts k.journal reader (slice_index c.marks reader) safe (kept_journal stands c k)))

-- what a reader is told is of the time that it was asked for, or of the last time
pub batch_time : {B : Type 0} (stands : B → Standing) (c : CellValue B) (own : Facts) (start reader : ℕ) (seen : Seen) (now : ℕ) (told : Batch) → CellKept stands c
    → IsOwnReader c own start seen reader → ReportsBatch stands c reader now told
    → told.time ≡ max now seen.time
batch_time stands c own start reader seen now told k mine reports =
    ap (λ (b : Batch). b.time) (reports k.journal k.known) ∙ ap (λ (n : ℕ). max now n) mine.time

-- and starts when its last batch was, or when the run did
pub batch_start : {B : Type 0} (stands : B → Standing) (c : CellValue B) (own : Facts) (start reader : ℕ) (seen : Seen) (now : ℕ) (told : Batch) → CellKept stands c
    → IsOwnReader c own start seen reader → ReportsBatch stands c reader now told
    → told.start ≡ (if is_delta own reader then seen.time else start)
batch_start stands c own start reader seen now told k mine reports =
    ap (λ (b : Batch). b.start) (reports k.journal k.known)
    ∙ ap (λ (f : Facts). if is_delta f reader then slice_index_or c.times reader c.start else c.start) mine.facts
    ∙ ap (λ (n : ℕ). if is_delta own reader then n else c.start) mine.time
    ∙ ap (λ (n : ℕ). if is_delta own reader then seen.time else n) mine.start

-- what a reader is told is of the recordings of the cell
pub batch_journal : {B : Type 0} (stands : B → Standing) (c : CellValue B) (own : Facts) (start reader : ℕ) (seen : Seen) (now : ℕ) (told : Batch)
    → CellKept stands c → IsOwnReader c own start seen reader → ReportsBatch stands c reader now told
    → ReportsJournal own reader seen.mark told
batch_journal stands c own start reader seen now told k mine reports =
    let is = reports k.journal k.known in
    record {
      journal = k.journal;
      admitted = subst (λ (f : Facts). IsJournal f k.journal) mine.facts (kept_journal stands c k);
      counted = ap (λ (b : Batch). b.mark) (sym is);
      streams =
          ap (λ (b : Batch). b.streams) is
          ∙ ap (λ (n : ℕ). reported c.facts reader (window (is_delta c.facts reader) n k.journal)) mine.mark
          ∙ ap (λ (f : Facts). reported f reader (window (is_delta f reader) seen.mark k.journal)) mine.facts;
    }

-- and goes on where that was
pub batch_continues : {B : Type 0} (stands : B → Standing) (c : CellValue B) (own : Facts) (start reader : ℕ) (seen : Seen) (now : ℕ) (told : Batch) → CellKept stands c
    → IsOwnReader c own start seen reader → ReportsBatch stands c reader now told
    → Continues own start reader seen told
batch_continues stands c own start reader seen now told k mine reports =
    let is = reports k.journal k.known in
    let marked : told.mark ≡ length k.journal = ap (λ (b : Batch). b.mark) is in
    record {
      plan = ap (λ (b : Batch). b.plan) is ∙ ap (λ (f : Facts). f.plan) mine.facts;
      reader = ap (λ (b : Batch). b.reader) is;
      instrument = ap (λ (b : Batch). b.instrument) is ∙ ap (λ (f : Facts). f.instrument) mine.facts;
      from =
          ap (λ (b : Batch). b.from) is
          ∙ ap (λ (f : Facts). if is_delta f reader then slice_index c.marks reader else 0) mine.facts
          ∙ ap (λ (n : ℕ). if is_delta own reader then n else 0) mine.mark;
      mark = omega (arith, mine.mark, k.past reader, k.known.counted, marked);
      start = batch_start stands c own start reader seen now told k mine reports;
    }

-- such a batch is within the bounds
pub journal_within : (own : Facts) (start reader : ℕ) (seen : Seen) (told : Batch) → BoundsReports → IsSafeFacts own → Continues own start reader seen told
    → ReportsJournal own reader seen.mark told → IsReportWithin own told.from told.mark told.streams
journal_within own start reader seen told law safe goes of =
    let from : ℕ = if is_delta own reader then seen.mark else 0 in
    let shown : List StreamPoints = reported own reader (window (is_delta own reader) seen.mark of.journal) in
    subst (λ (n : ℕ). IsReportWithin own n told.mark told.streams) (sym goes.from)
    (subst (λ (n : ℕ). IsReportWithin own from n told.streams) of.counted
    (subst (λ (all : List StreamPoints). IsReportWithin own from (length of.journal) all) (sym of.streams)
    (law own of.journal reader seen.mark safe of.admitted)))
