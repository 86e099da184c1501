-- A legal history is audited: the slips that its events make are the entries of each journal, and each batch is right.
use Rattle.std.proofs.Common.{◌≡◌, ℕ, zero, suc, ◌+◌, ◌-◌, ◌<◌, ◌≤◌, ◌≢◌, ℤ, Bool, true, false, ◌&&◌, not, cond, max, List, [], ◌∷◌, ◌++◌, length, map, take, drop, Option, Some, None, Result, Ok, Err, ◌⊎◌, inl, inr, get_or, refl, sym, ap, subst, ◌∙◌, append_assoc, arith}
use Rattle.std.specs.Prelude.{filter, slice_get, slice_index, slice_range, nat_le, nat_lt, ◌==◌, if◌then◌else◌}
use Rattle.std.specs.List.{list_all, position_from}
use Rattle.std.specs.Result.{result_unwrap_or}
use Rattle.std.proofs.lemmas.Bool.{and_from, and_parts, cases_lt, eq-eqb, eqb-true, false≢true, ltb-true, ne_eqb}
use Rattle.std.proofs.lemmas.Bool.Decides.{nat_tests}
use Rattle.std.proofs.lemmas.Grind.{fold-append}
use Rattle.std.proofs.lemmas.List.{append-nil, get_or_past, length-append, length-drop, length-map, take-append-le, drop-append-le, take-append-drop, take_all, drop_all, map-append}
use Rattle.std.proofs.lemmas.List.Elements.{filter-append}
use Rattle.std.proofs.lemmas.Option.{none-some, slice_get-get_or}
use Rattle.metric_audit.specs.Audits.{Audits, AuditsInstrument, first_impossible, is_possible}
use Rattle.metric_audit.specs.Batches.{AreAllRight, IsRight, each_may_follow, is_headed, mark_after, may_follow, time_after}
use Rattle.metric_audit.specs.Slips.{AreEntriesOf}
use Rattle.metric_audit.specs.declared.fault.AuditFault.{AuditFault}
use Rattle.metric_audit.specs.declared.fault.AuditFault.TheVariants as audits
use Rattle.metric_base.specs.StepLaws.{after_ok, require_ok}
use Rattle.metric_base.specs.Steps.{◌>>=◌, require, require_some}
use Rattle.metric_history.specs.Slips.{is_by, slip_of, slips_of}
use Rattle.metric_history.specs.declared.slip.Slip.{Slip}
use Rattle.metric_contents.specs.Attributes.{given_by_owned}
use Rattle.metric_contents.specs.Budgets.{amount_of}
use Rattle.metric_combinations.specs.Combinations.{permits}
use Rattle.metric_contents.specs.Encoding.{encode_of}
use Rattle.metric_contents.specs.declared.attributes.OwnedAttr.{OwnedAttr}
use Rattle.metric_contents.specs.declared.contents.Contents.{Contents}
use Rattle.metric_contents.specs.declared.contents.Instrument.{Instrument}
use Rattle.metric_contents.specs.declared.contents.Recorder.{Recorder}
use Rattle.metric_contents.specs.declared.refusal.Refusal.{Refusal}
use Rattle.metric_contents.specs.declared.refusal.Refusal.TheVariants.{UnknownInstrument, UnknownRecorder, UnknownReader, ValueRange, Closed, Budget, SumRange}
use Rattle.metric_facts.specs.declared.facts.Facts.{Facts}
use Rattle.metric_facts.specs.declared.facts.NumberedStream.{NumberedStream}
use Rattle.metric_facts.specs.Facts.{EncodesAllowedSets, RunFacts, in_bounds, is_allowed_set, is_delta, is_full_set, is_of_reader, key_facts}
use Rattle.metric_history.specs.Answers.{Past, batch, collected, recorded, spent}
use Rattle.metric_history.specs.Encoded.{encoded}
use Rattle.metric_history.specs.History.{History, accepted, added_by, batch_time, collects, granted_of, handed_of, is_closed, mark_of, previous_of, told_of}
use Rattle.metric_history.specs.Legal.{AllLegal, IsLegal, KeepsLegal, Legal, LegalClose, LegalCollect, LegalGrant, LegalRecord, grown}
use Rattle.metric_history.specs.Points.{reported}
use Rattle.metric_history.specs.Windows.{fits_all, fits_stream, window}
use Rattle.metric_history.specs.declared.batch.Batch.{Batch}
use Rattle.metric_history.specs.declared.entry.Entry.{Entry}
use Rattle.metric_history.specs.declared.event.Event.{Event}
use Rattle.metric_history.specs.declared.event.Event.TheVariants.{Record, Collect, Close, Grant}
use Rattle.metric_history.specs.declared.event.Reply.{Reply}
use Rattle.metric_history.specs.declared.event.Reply.TheVariants.{Accepted, Collected, Done, Granted, Refused}
use Rattle.metric_plan.specs.PlanFacts.{plan_facts_at}
use Rattle.metric_plan.specs.Plans.{IsPlan, PlanValue}
use Rattle.metric_kit_commands.specs.Accounts.{IsAccount, batches_at}
use Rattle.metric_kit_commands.specs.Audits.{AreSlipsOf, AuditEnds, EndsAudit, FailsAudit, SomeFails, batches_by, batches_told, slips_by, slips_told}
use Rattle.metric_kit_commands.specs.Faults.{from_audit}
use Rattle.metric_kit_commands.specs.declared.accounts.Account.{Account}
use Rattle.metric_kit_commands.specs.declared.fault.KitFault.{KitFault}
use Rattle.metric_kit_commands.specs.declared.fault.KitFault.TheVariants as kit

-- ---- lists

-- where one test of six holds for more
fifth_for_more : (a b c d e f g : Bool) → (a && (b && (c && (d && (e && f))))) ≡ true → (e ≡ true → g ≡ true) → (a && (b && (c && (d && (g && f))))) ≡ true
fifth_for_more true true true true true f g all more = rw (more refl) all
fifth_for_more true true true true false f g all more = absurd (false≢true all)
fifth_for_more true true true false e f g all more = absurd (false≢true all)
fifth_for_more true true false d e f g all more = absurd (false≢true all)
fifth_for_more true false c d e f g all more = absurd (false≢true all)
fifth_for_more false b c d e f g all more = absurd (false≢true all)

-- an element of a list with one more: one of the list, or the last
last_or_before : {A : Type 0} (xs : List A) (x y : A) (at : ℕ) → slice_get (xs ++ x ∷ []) at ≡ Some y
    → ((slice_get xs at ≡ Some y) × (take at (xs ++ x ∷ []) ≡ take at xs)) ⊎ ((x ≡ y) × (take at (xs ++ x ∷ []) ≡ xs))
last_or_before [] x y zero e = inr (cc, refl)
last_or_before [] x y (suc at) e = absurd cc
last_or_before (z ∷ xs) x y zero e = inl (e, refl)
last_or_before {A = A} (z ∷ xs) x y (suc at) e = elim (last_or_before xs x y at e) [
  | inl p ↦ inl (p.0, ap (λ (l : List A). z ∷ l) p.1)
  | inr p ↦ inr (p.0, ap (λ (l : List A). z ∷ l) p.1)
]

slips_of-append : (r : ℕ) (xs ys : List Entry) → slips_of r (xs ++ ys) ≡ slips_of r xs ++ slips_of r ys
slips_of-append r xs ys = ap (map slip_of) (filter-append (is_by r) xs ys) ∙ map-append slip_of (filter (is_by r) xs) (filter (is_by r) ys)

-- ---- one instrument of a run

-- the facts at its place have its number, a budget for each recorder, and the keys of its set keys
pub record IsOwn (run : RunFacts) (i : ℕ) (own : Facts) : Type 0 where
  pub at : slice_get run.instruments i ≡ Some own
  pub numbered : own.instrument ≡ i
  pub budgets : length own.budgets ≡ length run.contents.recorders
  pub allowed : (attrs : List OwnedAttr) (set : List ℕ) → encoded run.contents i attrs ≡ Ok set → is_allowed_set own set ≡ true

-- a recording of the instrument that nothing refused
record IsTaken (run : RunFacts) (start : ℕ) (h : History) (i : ℕ) (own : Facts) (recorder : ℕ) (attrs : List OwnedAttr) (value : ℤ) : Type 0 where
  set : List ℕ
  named : encoded run.contents i attrs ≡ Ok set
  by_recorder : recorder < length own.budgets
  ranged : in_bounds own value ≡ true
  fits : fits_all own (mark_of run h i) (accepted run h i) (record { recorder = recorder; set = set; value = value }) ≡ true

recorded_taken : (run : RunFacts) (start : ℕ) (h : History) (i : ℕ) (own : Facts) (recorder : ℕ) (attrs : List OwnedAttr) (value : ℤ) (entry : Entry)
    → recorded own (told_of run start h i) (encoded run.contents i attrs) recorder value ≡ Ok entry → IsTaken run start h i own recorder attrs value
recorded_taken run start h i own recorder attrs value entry rest =
    let by_recorder = require_ok (nat_lt recorder (length own.budgets)) UnknownRecorder _ entry rest in
    after_ok (encoded run.contents i attrs) _ entry by_recorder.1
    (λ set named later.
    let ranged = require_ok (in_bounds own value) ValueRange _ entry later in
    let opened = require_ok (not (is_closed h i)) Closed _ entry ranged.1 in
    let budgeted = require_ok (nat_lt (spent (accepted run h i) recorder) (slice_index own.budgets recorder + granted_of h i recorder)) Budget _ entry opened.1 in
    let fits = require_ok (fits_all own (mark_of run h i) (accepted run h i) (record { recorder = recorder; set = set; value = value })) SumRange _ entry budgeted.1 in
    record {
      set = set;
      named = named;
      by_recorder = ltb-true recorder (length own.budgets) by_recorder.0;
      ranged = ranged.0;
      fits = fits.0;
    })

record_taken : (run : RunFacts) (start : ℕ) (h : History) (i : ℕ) (own : Facts) (recorder : ℕ) (attrs : List OwnedAttr) (value : ℤ) (o : Option Facts) → o ≡ Some own
    → LegalRecord (require_some o UnknownInstrument >>= λ own. recorded own (told_of run start h i) (encoded run.contents i attrs) recorder value) Accepted
    → IsTaken run start h i own recorder attrs value
record_taken run start h i own recorder attrs value None found legal = absurd cc
record_taken run start h i own recorder attrs value (Some other) found legal =
    let same : other ≡ own = cc in
    subst (λ (f : Facts). IsTaken run start h i f recorder attrs value) same (at (recorded other (told_of run start h i) (encoded run.contents i attrs) recorder value) refl legal)
  where
    at : (r : Result Entry Refusal) → recorded other (told_of run start h i) (encoded run.contents i attrs) recorder value ≡ r → LegalRecord r Accepted
        → IsTaken run start h i other recorder attrs value
    at (Ok entry) is ok = recorded_taken run start h i other recorder attrs value entry is
    at (Err refusal) is ok = absurd ok

collect_told : (own : Facts) (start : ℕ) (told : Past) (q now : ℕ) (b : Batch) (o : Option Facts) → o ≡ Some own
    → LegalCollect (require_some o UnknownInstrument >>= λ own. collected own start told q now) (Collected b)
    → (q < length own.delta) × (b ≡ batch own start told q now)
collect_told own start told q now b None found legal = absurd cc
collect_told own start told q now b (Some other) found legal =
    let same : other ≡ own = cc in
    subst (λ (f : Facts). (q < length f.delta) × (b ≡ batch f start told q now)) same (at (nat_lt q (length other.delta)) refl legal)
  where
    at : (t : Bool) → nat_lt q (length other.delta) ≡ t → LegalCollect (require t UnknownReader >>= λ _. Ok (batch other start told q now)) (Collected b)
        → (q < length other.delta) × (b ≡ batch other start told q now)
    at true e is = (ltb-true q (length other.delta) e, is)
    at false e is = absurd is

-- ---- what an event does to an instrument

-- it adds a recording
record Adds (run : RunFacts) (start : ℕ) (h : History) (i : ℕ) (own : Facts) (event : Event) (reply : Reply) : Type 0 where
  entry : Entry
  adds : added_by run i event reply ≡ entry ∷ []
  by_recorder : entry.recorder < length own.budgets
  allowed : is_allowed_set own entry.set ≡ true
  ranged : in_bounds own entry.value ≡ true
  fits : fits_all own (mark_of run h i) (accepted run h i) entry ≡ true
  slips : (r : ℕ) → slips_by run.contents i r event reply ≡ slips_of r (entry ∷ [])
  collects_none : (reader : ℕ) → collects i reader event reply ≡ false
  batches : batches_by i event reply ≡ []

-- it is answered with a batch
record Tells (run : RunFacts) (start : ℕ) (h : History) (i : ℕ) (own : Facts) (event : Event) (reply : Reply) : Type 0 where
  reader : ℕ
  now : ℕ
  told : Batch
  adds : added_by run i event reply ≡ []
  slips : (r : ℕ) → slips_by run.contents i r event reply ≡ []
  collects_own : (other : ℕ) → collects i other event reply ≡ (reader == other)
  batches : batches_by i event reply ≡ told ∷ []
  timed : batch_time reply ≡ told.time
  known : reader < length own.delta
  is : told ≡ batch own start (told_of run start h i) reader now

-- or it does nothing
record IsQuiet (run : RunFacts) (i : ℕ) (event : Event) (reply : Reply) : Type 0 where
  adds : added_by run i event reply ≡ []
  slips : (r : ℕ) → slips_by run.contents i r event reply ≡ []
  collects_none : (reader : ℕ) → collects i reader event reply ≡ false
  batches : batches_by i event reply ≡ []

abbrev Happens : RunFacts → ℕ → History → ℕ → Facts → Event → Reply → Type 0
Happens run start h i own event reply = Adds run start h i own event reply ⊎ (Tells run start h i own event reply ⊎ IsQuiet run i event reply)

quiet_record : (run : RunFacts) (i recorder instrument : ℕ) (attrs : List OwnedAttr) (value : ℤ) → (instrument == i) ≡ false → IsQuiet run i (Record recorder instrument attrs value) Accepted
quiet_record run i recorder instrument attrs value other = record {
  adds = rw other refl;
  slips = λ r. rw other refl;
  collects_none = λ reader. refl;
  batches = refl;
}

slip_is : (contents : Contents) (i r recorder : ℕ) (attrs : List OwnedAttr) (value : ℤ) (set : List ℕ) → encoded contents i attrs ≡ Ok set
    → slips_by contents i r (Record recorder i attrs value) Accepted
    ≡ slips_of r (record { recorder = recorder; set = result_unwrap_or (encoded contents i attrs) []; value = value } ∷ [])
slip_is contents i r recorder attrs value set named = rw (eq-eqb i i refl, named) (at (recorder == r))
  where
    at : (b : Bool) → cond b (record { set = set; value = value } ∷ []) [] ≡ map slip_of (cond b (record { recorder = recorder; set = set; value = value } ∷ []) [])
    at true = refl
    at false = refl

adds_record : (run : RunFacts) (start : ℕ) (h : History) (i : ℕ) (own : Facts) (recorder : ℕ) (attrs : List OwnedAttr) (value : ℤ) → IsOwn run i own
    → IsTaken run start h i own recorder attrs value → Adds run start h i own (Record recorder i attrs value) Accepted
adds_record run start h i own recorder attrs value o t = record {
  entry = record { recorder = recorder; set = result_unwrap_or (encoded run.contents i attrs) []; value = value };
  adds = rw (eq-eqb i i refl) refl;
  by_recorder = t.by_recorder;
  allowed = rw t.named (o.allowed attrs t.set t.named);
  ranged = t.ranged;
  fits = rw t.named t.fits;
  slips = λ r. slip_is run.contents i r recorder attrs value t.set t.named;
  collects_none = λ reader. refl;
  batches = refl;
}

tells_batch : (run : RunFacts) (start : ℕ) (h : History) (i : ℕ) (own : Facts) (q now : ℕ) (b : Batch) → (q < length own.delta) × (b ≡ batch own start (told_of run start h i) q now)
    → Tells run start h i own (Collect q i now) (Collected b)
tells_batch run start h i own q now b known = record {
  reader = q;
  now = now;
  told = b;
  adds = refl;
  slips = λ r. refl;
  collects_own = λ other. rw (eq-eqb i i refl) refl;
  batches = rw (eq-eqb i i refl) refl;
  timed = refl;
  known = known.0;
  is = known.1;
}

quiet_collect : (run : RunFacts) (i q instrument now : ℕ) (b : Batch) → (instrument == i) ≡ false → IsQuiet run i (Collect q instrument now) (Collected b)
quiet_collect run i q instrument now b other = record {
  adds = refl;
  slips = λ r. refl;
  collects_none = λ reader. rw other refl;
  batches = rw other refl;
}

no_batch_of_record : (due : Result Entry Refusal) (b : Batch) → LegalRecord due (Collected b) → ⊥
no_batch_of_record (Ok entry) b legal = legal
no_batch_of_record (Err refusal) b legal = legal

no_batch_of_close : (due : Result (Unit {0}) Refusal) (b : Batch) → LegalClose due (Collected b) → ⊥
no_batch_of_close (Ok done) b legal = legal
no_batch_of_close (Err refusal) b legal = legal

no_batch_of_grant : (due : Result (Unit {0}) Refusal) (b : Batch) → LegalGrant due (Collected b) → ⊥
no_batch_of_grant (Ok done) b legal = legal
no_batch_of_grant (Err refusal) b legal = legal

happens : (run : RunFacts) (start : ℕ) (h : History) (i : ℕ) (own : Facts) (event : Event) (reply : Reply) → IsOwn run i own → Legal run start h event reply
    → Happens run start h i own event reply
happens run start h i own (Record recorder instrument attrs value) Accepted o legal = at (instrument == i) refl
  where
    at : (b : Bool) → (instrument == i) ≡ b → Happens run start h i own (Record recorder instrument attrs value) Accepted
    at false e = inr (inr (quiet_record run i recorder instrument attrs value e))
    at true e =
        let same : instrument ≡ i = eqb-true instrument i e in
        let here : Legal run start h (Record recorder i attrs value) Accepted = subst (λ (n : ℕ). Legal run start h (Record recorder n attrs value) Accepted) same legal in
        subst (λ (n : ℕ). Happens run start h i own (Record recorder n attrs value) Accepted) (sym same)
        (inl (adds_record run start h i own recorder attrs value o (record_taken run start h i own recorder attrs value (slice_get run.instruments i) o.at here)))
happens run start h i own (Collect q instrument now) (Collected b) o legal = at (instrument == i) refl
  where
    at : (t : Bool) → (instrument == i) ≡ t → Happens run start h i own (Collect q instrument now) (Collected b)
    at false e = inr (inr (quiet_collect run i q instrument now b e))
    at true e =
        let same : instrument ≡ i = eqb-true instrument i e in
        let here : Legal run start h (Collect q i now) (Collected b) = subst (λ (n : ℕ). Legal run start h (Collect q n now) (Collected b)) same legal in
        subst (λ (n : ℕ). Happens run start h i own (Collect q n now) (Collected b)) (sym same)
        (inr (inl (tells_batch run start h i own q now b (collect_told own start (told_of run start h i) q now b (slice_get run.instruments i) o.at here))))
happens run start h i own (Record recorder instrument attrs value) (Collected b) o legal = absurd (no_batch_of_record _ b legal)
happens run start h i own (Record recorder instrument attrs value) Done o legal = inr (inr (record { adds = refl; slips = λ r. refl; collects_none = λ reader. refl; batches = refl }))
happens run start h i own (Record recorder instrument attrs value) Granted o legal = inr (inr (record { adds = refl; slips = λ r. refl; collects_none = λ reader. refl; batches = refl }))
happens run start h i own (Record recorder instrument attrs value) (Refused refusal) o legal = inr (inr (record { adds = refl; slips = λ r. refl; collects_none = λ reader. refl; batches = refl }))
happens run start h i own (Collect q instrument now) Accepted o legal = inr (inr (record { adds = refl; slips = λ r. refl; collects_none = λ reader. refl; batches = refl }))
happens run start h i own (Collect q instrument now) Done o legal = inr (inr (record { adds = refl; slips = λ r. refl; collects_none = λ reader. refl; batches = refl }))
happens run start h i own (Collect q instrument now) Granted o legal = inr (inr (record { adds = refl; slips = λ r. refl; collects_none = λ reader. refl; batches = refl }))
happens run start h i own (Collect q instrument now) (Refused refusal) o legal = inr (inr (record { adds = refl; slips = λ r. refl; collects_none = λ reader. refl; batches = refl }))
happens run start h i own (Close instrument) (Collected b) o legal = absurd (no_batch_of_close _ b legal)
happens run start h i own (Close instrument) Accepted o legal = inr (inr (record { adds = refl; slips = λ r. refl; collects_none = λ reader. refl; batches = refl }))
happens run start h i own (Close instrument) Done o legal = inr (inr (record { adds = refl; slips = λ r. refl; collects_none = λ reader. refl; batches = refl }))
happens run start h i own (Close instrument) Granted o legal = inr (inr (record { adds = refl; slips = λ r. refl; collects_none = λ reader. refl; batches = refl }))
happens run start h i own (Close instrument) (Refused refusal) o legal = inr (inr (record { adds = refl; slips = λ r. refl; collects_none = λ reader. refl; batches = refl }))
happens run start h i own (Grant recorder instrument amount) (Collected b) o legal = absurd (no_batch_of_grant _ b legal)
happens run start h i own (Grant recorder instrument amount) Accepted o legal = inr (inr (record { adds = refl; slips = λ r. refl; collects_none = λ reader. refl; batches = refl }))
happens run start h i own (Grant recorder instrument amount) Done o legal = inr (inr (record { adds = refl; slips = λ r. refl; collects_none = λ reader. refl; batches = refl }))
happens run start h i own (Grant recorder instrument amount) Granted o legal = inr (inr (record { adds = refl; slips = λ r. refl; collects_none = λ reader. refl; batches = refl }))
happens run start h i own (Grant recorder instrument amount) (Refused refusal) o legal = inr (inr (record { adds = refl; slips = λ r. refl; collects_none = λ reader. refl; batches = refl }))

-- ---- slips

with_more : {A : Type 0} (a b c d : List A) → a ≡ c → b ≡ d → a ++ b ≡ c ++ d
with_more a b c d p q = rw (p, q) refl

slips_step : (run : RunFacts) (start : ℕ) (h : History) (i : ℕ) (own : Facts) (event : Event) (reply : Reply) (r : ℕ) → Happens run start h i own event reply
    → slips_of r (accepted run h i) ≡ slips_told run.contents h i r
    → slips_of r (accepted run h i ++ added_by run i event reply) ≡ slips_told run.contents h i r ++ slips_by run.contents i r event reply
slips_step run start h i own event reply r (inl a) before =
    slips_of-append r (accepted run h i) (added_by run i event reply)
    ∙ with_more _ _ _ _ before (ap (slips_of r) a.adds ∙ sym (a.slips r))
slips_step run start h i own event reply r (inr (inl t)) before =
    slips_of-append r (accepted run h i) (added_by run i event reply)
    ∙ with_more _ _ _ _ before (ap (slips_of r) t.adds ∙ sym (t.slips r))
slips_step run start h i own event reply r (inr (inr q)) before =
    slips_of-append r (accepted run h i) (added_by run i event reply)
    ∙ with_more _ _ _ _ before (ap (slips_of r) q.adds ∙ sym (q.slips r))

slips_agree : (run : RunFacts) (start : ℕ) (i : ℕ) (own : Facts) → IsOwn run i own → (h : History) → IsLegal run start h → (r : ℕ)
    → slips_of r (accepted run h i) ≡ slips_told run.contents h i r
slips_agree run start i own o [] legal r = refl
slips_agree run start i own o (a ∷ older) legal r =
    slips_step run start older i own a.event a.reply r (happens run start older i own a.event a.reply o legal.1) (slips_agree run start i own o older legal.0 r)

-- a recorder that is none of so many has no slips
stranger_step : (run : RunFacts) (start : ℕ) (h : History) (i : ℕ) (own : Facts) (event : Event) (reply : Reply) (r : ℕ) → length own.budgets ≤ r → Happens run start h i own event reply
    → slips_of r (added_by run i event reply) ≡ []
stranger_step run start h i own event reply r over (inl a) =
    ap (slips_of r) a.adds ∙ ap (λ (b : Bool). map slip_of (cond b (a.entry ∷ []) [])) (ne_eqb a.entry.recorder r (λ same. absurd (omega (arith, same, a.by_recorder, over))))
stranger_step run start h i own event reply r over (inr (inl t)) = ap (slips_of r) t.adds
stranger_step run start h i own event reply r over (inr (inr q)) = ap (slips_of r) q.adds

strangers_have_none : (run : RunFacts) (start : ℕ) (i : ℕ) (own : Facts) → IsOwn run i own → (h : History) → IsLegal run start h → (r : ℕ) → length own.budgets ≤ r
    → slips_of r (accepted run h i) ≡ []
strangers_have_none run start i own o [] legal r over = refl
strangers_have_none run start i own o (a ∷ older) legal r over =
    slips_of-append r (accepted run older i) (added_by run i a.event a.reply)
    ∙ with_more _ _ [] [] (strangers_have_none run start i own o older legal.0 r over)
    (stranger_step run start older i own a.event a.reply r over (happens run start older i own a.event a.reply o legal.1))

-- The slips that a legal history makes are the entries of its journal.
pub agrees_with_slips : (run : RunFacts) (start : ℕ) (i : ℕ) (own : Facts) → IsOwn run i own → (h : History) → IsLegal run start h → (slips : List (List Slip))
    → AreSlipsOf run.contents h i slips → (r : ℕ) → AreEntriesOf (accepted run h i) slips r
agrees_with_slips run start i own o h legal slips s r = elim (cases_lt r (length slips)) [
  | inl within ↦ slips_agree run start i own o h legal r ∙ sym (s.own r within)
  | inr over ↦ strangers_have_none run start i own o h legal r (omega (arith, over, s.one_each, o.budgets)) ∙ sym (get_or_past slips r [] over)
]

-- ---- entries

-- where none passes a test, nor does the next, none of the longer list does
none_more : {X : Type 0} (p : X → Bool) (n : ℕ) (xs : List X) (x : X) → position_from p n xs ≡ None → p x ≡ false → position_from p n (xs ++ x ∷ []) ≡ None
none_more p n [] x none last = rw last refl
none_more p n (y ∷ ys) x none last = at (p y) none (λ later. none_more p (n + 1) ys x later last)
  where
    at : (b : Bool) → cond b (Some n) (position_from p (n + 1) ys) ≡ None
        → (position_from p (n + 1) ys ≡ None → position_from p (n + 1) (ys ++ x ∷ []) ≡ None)
        → cond b (Some n) (position_from p (n + 1) (ys ++ x ∷ [])) ≡ None
    at true some rest = some
    at false later rest = rest later

possible_step : (run : RunFacts) (start : ℕ) (h : History) (i : ℕ) (own : Facts) (event : Event) (reply : Reply) → Happens run start h i own event reply
    → first_impossible own (accepted run h i) ≡ None
    → first_impossible own (accepted run h i ++ added_by run i event reply) ≡ None
possible_step run start h i own event reply (inl a) before =
    ap (λ (l : List Entry). first_impossible own (accepted run h i ++ l)) a.adds
    ∙ none_more (λ (e : Entry). not (is_possible own e)) 0 (accepted run h i) a.entry before (ap not (and_from (is_allowed_set own a.entry.set) _ a.allowed a.ranged))
possible_step run start h i own event reply (inr (inl t)) before =
    ap (λ (l : List Entry). first_impossible own (accepted run h i ++ l)) t.adds
    ∙ ap (first_impossible own) (append-nil (accepted run h i)) ∙ before
possible_step run start h i own event reply (inr (inr q)) before =
    ap (λ (l : List Entry). first_impossible own (accepted run h i ++ l)) q.adds
    ∙ ap (first_impossible own) (append-nil (accepted run h i)) ∙ before

-- Each recording that a legal history accepts is possible.
pub none_impossible : (run : RunFacts) (start : ℕ) (i : ℕ) (own : Facts) → IsOwn run i own → (h : History) → IsLegal run start h → first_impossible own (accepted run h i) ≡ None
none_impossible run start i own o [] legal = refl
none_impossible run start i own o (a ∷ older) legal =
    possible_step run start older i own a.event a.reply (happens run start older i own a.event a.reply o legal.1) (none_impossible run start i own o older legal.0)

-- ---- batches

-- each recording of a longer list may follow
follows_more : (own : Facts) (reader mark : ℕ) (before entries : List Entry) (entry : Entry) → each_may_follow own reader mark before entries ≡ true
    → may_follow own reader mark (before ++ entries) entry ≡ true → each_may_follow own reader mark before (entries ++ entry ∷ []) ≡ true
follows_more own reader mark before [] entry each may =
    and_from (may_follow own reader mark before entry) true (subst (λ (l : List Entry). may_follow own reader mark l entry ≡ true) (append-nil before) may) refl
follows_more own reader mark before (e ∷ entries) entry each may =
    let parts = and_parts (may_follow own reader mark before e) (each_may_follow own reader mark (before ++ e ∷ []) entries) each in
    and_from (may_follow own reader mark before e) _ parts.0
    (follows_more own reader mark (before ++ e ∷ []) entries entry parts.1
    (subst (λ (l : List Entry). may_follow own reader mark l entry ≡ true) (sym (append_assoc before (e ∷ []) entries)) may))

-- what fits each stream fits those of a reader
fits_own : (own : Facts) (mark : ℕ → ℕ) (journal : List Entry) (entry : Entry) (reader : ℕ) (streams : List NumberedStream)
    → list_all (λ (s : NumberedStream). fits_stream s.stream (window (is_delta own s.stream.reader) (mark s.stream.reader) journal) entry) streams ≡ true
    → list_all (λ (s : NumberedStream). fits_stream s.stream (window (is_delta own reader) (mark reader) journal) entry) (filter (is_of_reader reader) streams) ≡ true
fits_own own mark journal entry reader [] all = refl
fits_own own mark journal entry reader (s ∷ streams) all =
    let parts = and_parts (fits_stream s.stream (window (is_delta own s.stream.reader) (mark s.stream.reader) journal) entry) _ all in
    at (is_of_reader reader s) refl parts.0 (fits_own own mark journal entry reader streams parts.1)
  where
    at : (b : Bool) → is_of_reader reader s ≡ b → fits_stream s.stream (window (is_delta own s.stream.reader) (mark s.stream.reader) journal) entry ≡ true
        → list_all (λ (s : NumberedStream). fits_stream s.stream (window (is_delta own reader) (mark reader) journal) entry) (filter (is_of_reader reader) streams) ≡ true
        → list_all (λ (s : NumberedStream). fits_stream s.stream (window (is_delta own reader) (mark reader) journal) entry) (cond b (s ∷ filter (is_of_reader reader) streams) (filter (is_of_reader reader) streams)) ≡ true
    at true e here rest =
        and_from (fits_stream s.stream (window (is_delta own reader) (mark reader) journal) entry) _
        (subst (λ (n : ℕ). fits_stream s.stream (window (is_delta own n) (mark n) journal) entry ≡ true) (eqb-true s.stream.reader reader e) here) rest
    at false e here rest = rest

-- a right batch stays right when a recording more is accepted
right_longer : (own : Facts) (i start : ℕ) (entries : List Entry) (entry : Entry) (before : List Batch) (b : Batch) → IsRight own i start entries before b
    → IsRight own i start (entries ++ entry ∷ []) before b
right_longer own i start entries entry before b r = record {
  known = r.known;
  follows = record {
    headed = longer;
    possible = subst (λ (l : List Entry). each_may_follow own b.reader mark l (slice_range (entries ++ entry ∷ []) mark b.mark) ≡ true) (sym first)
        (subst (λ (l : List Entry). each_may_follow own b.reader mark (take mark entries) l ≡ true) (sym added) r.follows.possible);
    points = r.follows.points ∙ ap (λ (l : List Entry). reported own b.reader (window (is_delta own b.reader) mark l)) (sym (take-append-le b.mark entries (entry ∷ []) within));
  };
}
  where
    mark : ℕ
    mark = mark_after b.reader before

    time : ℕ
    time = time_after start b.reader before

    after_start : ((nat_le mark b.mark && (nat_le b.mark (length entries) && nat_le time b.time))) ≡ true
    after_start =
        (and_parts (b.start == (if is_delta own b.reader then time else start)) _
        ((and_parts (b.from == (if is_delta own b.reader then mark else 0)) _
        ((and_parts (b.instrument == i) _ r.follows.headed).1)).1)).1

    up : mark ≤ b.mark
    up = let e = (and_parts (nat_le mark b.mark) _ after_start).0 in grind (arith, nat_tests)

    within_is : nat_le b.mark (length entries) ≡ true
    within_is = (and_parts (nat_le b.mark (length entries)) _ ((and_parts (nat_le mark b.mark) _ after_start).1)).0

    within : b.mark ≤ length entries
    within = let e = within_is in grind (arith, nat_tests)

    still : nat_le b.mark (length (entries ++ entry ∷ [])) ≡ true
    still = let m = within in let l = length-append entries (entry ∷ []) in grind (arith, nat_tests)

    longer : is_headed own i start (length (entries ++ entry ∷ [])) mark time b ≡ true
    longer = fifth_for_more (b.instrument == i) (b.from == (if is_delta own b.reader then mark else 0)) (b.start == (if is_delta own b.reader then time else start))
        (nat_le mark b.mark) (nat_le b.mark (length entries)) (nat_le time b.time) (nat_le b.mark (length (entries ++ entry ∷ []))) r.follows.headed (λ _. still)

    first : take mark (entries ++ entry ∷ []) ≡ take mark entries
    first = take-append-le mark entries (entry ∷ []) (omega (arith, up, within))

    added : slice_range (entries ++ entry ∷ []) mark b.mark ≡ slice_range entries mark b.mark
    added =
        ap (take (b.mark - mark)) (drop-append-le mark entries (entry ∷ []) (omega (arith, up, within)))
        ∙ take-append-le (b.mark - mark) (drop mark entries) (entry ∷ []) (omega (arith, up, within, length-drop mark entries))

-- What a history keeps of an instrument: what its batches say of their reader's mark and time is what the history says,
-- each recording after a reader's mark may follow, and each batch is right.
record Keeps (run : RunFacts) (start : ℕ) (i : ℕ) (own : Facts) (entries : List Entry) (batches : List Batch) (mark previous : ℕ → ℕ) : Type 0 where
  marks : (reader : ℕ) → mark_after reader batches ≡ mark reader
  times : (reader : ℕ) → time_after start reader batches ≡ previous reader
  low : (reader : ℕ) → mark reader ≤ length entries
  possible : (reader : ℕ) → each_may_follow own reader (mark reader) (take (mark reader) entries) (drop (mark reader) entries) ≡ true
  right : AreAllRight own i start entries batches

-- after one recording more
keeps_entry : (run : RunFacts) (start : ℕ) (i : ℕ) (own : Facts) (entries : List Entry) (batches : List Batch) (mark previous : ℕ → ℕ) (entry : Entry)
    → Keeps run start i own entries batches mark previous → is_allowed_set own entry.set ≡ true → in_bounds own entry.value ≡ true → fits_all own mark entries entry ≡ true
    → Keeps run start i own (entries ++ entry ∷ []) batches mark previous
keeps_entry run start i own entries batches mark previous entry k allowed ranged fits = record {
  marks = k.marks;
  times = k.times;
  low = λ reader. omega (arith, k.low reader, length-append entries (entry ∷ []));
  possible = λ reader.
      let may : may_follow own reader (mark reader) entries entry ≡ true =
      and_from (is_allowed_set own entry.set) _ allowed (and_from (in_bounds own entry.value) _ ranged (fits_own own mark entries entry reader own.streams fits)) in
      let all : each_may_follow own reader (mark reader) (take (mark reader) entries) (drop (mark reader) entries ++ entry ∷ []) ≡ true =
      follows_more own reader (mark reader) (take (mark reader) entries) (drop (mark reader) entries) entry (k.possible reader)
      (subst (λ (l : List Entry). may_follow own reader (mark reader) l entry ≡ true) (sym (take-append-drop (mark reader) entries)) may) in
      subst (λ (l : List Entry). each_may_follow own reader (mark reader) l (drop (mark reader) (entries ++ entry ∷ [])) ≡ true) (sym (take-append-le (mark reader) entries (entry ∷ []) (k.low reader)))
      (subst (λ (l : List Entry). each_may_follow own reader (mark reader) (take (mark reader) entries) l ≡ true) (sym (drop-append-le (mark reader) entries (entry ∷ []) (k.low reader))) all);
  right = λ at b found. right_longer own i start entries entry (take at batches) b (k.right at b found);
}

-- the batch that a reader is told is right
told_is_right : (run : RunFacts) (start : ℕ) (i : ℕ) (own : Facts) (entries : List Entry) (batches : List Batch) (mark previous : ℕ → ℕ) (closed : Bool) (granted : ℕ → ℕ) (handed : ℕ) (reader now : ℕ) (b : Batch)
    → own.instrument ≡ i → Keeps run start i own entries batches mark previous → reader < length own.delta
    → b ≡ batch own start (record { accepted = entries; mark = mark; previous = previous; closed = closed; granted = granted; handed = handed }) reader now → IsRight own i start entries batches b
told_is_right run start i own entries batches mark previous closed granted handed reader now b numbered k known is = subst (λ (told : Batch). IsRight own i start entries batches told) (sym is) (record {
  known = known;
  follows = rw (k.marks reader, k.times reader) (record {
    headed =
        and_from (own.instrument == i) _ (eq-eqb own.instrument i numbered)
        (and_from _ _ (eq-eqb (if is_delta own reader then mark reader else 0) _ refl)
        (and_from _ _ (eq-eqb (if is_delta own reader then previous reader else start) _ refl)
        (and_from (nat_le (mark reader) (length entries)) _ up (and_from (nat_le (length entries) (length entries)) _ same later))));
    possible = subst (λ (l : List Entry). each_may_follow own reader (mark reader) (take (mark reader) entries) l ≡ true) (sym all) (k.possible reader);
    points = ap (λ (l : List Entry). reported own reader (window (is_delta own reader) (mark reader) l)) (sym (take_all (length entries) entries (omega arith)));
  });
})
  where
    up : nat_le (mark reader) (length entries) ≡ true
    up = let m = k.low reader in grind (arith, nat_tests)

    same : nat_le (length entries) (length entries) ≡ true
    same = grind (arith, nat_tests)

    later : nat_le (previous reader) (max now (previous reader)) ≡ true
    later = let m : previous reader ≤ max now (previous reader) = omega arith in grind (arith, nat_tests)

    all : slice_range entries (mark reader) (length entries) ≡ drop (mark reader) entries
    all = take_all (length entries - mark reader) (drop (mark reader) entries) (omega (arith, length-drop (mark reader) entries, k.low reader))

-- after a batch
keeps_batch : (run : RunFacts) (start : ℕ) (i : ℕ) (own : Facts) (entries : List Entry) (batches : List Batch) (mark previous : ℕ → ℕ) (closed : Bool) (granted : ℕ → ℕ) (handed : ℕ) (reader now : ℕ) (b : Batch)
    → own.instrument ≡ i → Keeps run start i own entries batches mark previous → reader < length own.delta
    → b ≡ batch own start (record { accepted = entries; mark = mark; previous = previous; closed = closed; granted = granted; handed = handed }) reader now
    → Keeps run start i own entries (batches ++ b ∷ []) (λ other. cond (reader == other) (length entries) (mark other)) (λ other. cond (reader == other) (max b.time (previous other)) (previous other))
keeps_batch run start i own entries batches mark previous closed granted handed reader now b numbered k known is = record {
  marks = λ other.
      fold-append (λ m (x : Batch). if x.reader == other then x.mark else m) 0 batches (b ∷ [])
      ∙ ap (λ (x : Batch). cond (x.reader == other) x.mark (mark_after other batches)) is
      ∙ ap (λ (m : ℕ). cond (reader == other) (length entries) m) (k.marks other);
  times = λ other.
      fold-append (λ t (x : Batch). if x.reader == other then x.time else t) start batches (b ∷ [])
      ∙ ap (λ (x : Batch). cond (x.reader == other) b.time (time_after start other batches)) is
      ∙ timed other (reader == other) refl;
  low = λ other. bounded other (reader == other);
  possible = λ other. each other (reader == other);
  right = λ at told found. elim (last_or_before batches b told at found) [
    | inl p ↦ subst (λ (l : List Batch). IsRight own i start entries l told) (sym p.1) (k.right at told p.0)
    | inr p ↦ subst (λ (l : List Batch). IsRight own i start entries l told) (sym p.1)
        (subst (λ (x : Batch). IsRight own i start entries batches x) p.0 (told_is_right run start i own entries batches mark previous closed granted handed reader now b numbered k known is))
  ];
}
  where
    timed : (other : ℕ) (t : Bool) → (reader == other) ≡ t
        → cond t b.time (time_after start other batches) ≡ cond t (max b.time (previous other)) (previous other)
    timed other true e =
        let same : reader ≡ other = eqb-true reader other e in
        let time : b.time ≡ max now (previous reader) = ap (λ (x : Batch). x.time) is in
        let before : previous reader ≡ previous other = ap previous same in
        omega (arith, time, before)
    timed other false e = k.times other

    bounded : (other : ℕ) (t : Bool) → cond t (length entries) (mark other) ≤ length entries
    bounded other true = omega arith
    bounded other false = k.low other

    each : (other : ℕ) (t : Bool)
        → each_may_follow own other (cond t (length entries) (mark other)) (take (cond t (length entries) (mark other)) entries) (drop (cond t (length entries) (mark other)) entries) ≡ true
    each other true =
        subst (λ (l : List Entry). each_may_follow own other (length entries) (take (length entries) entries) l ≡ true) (sym (drop_all (length entries) entries (omega arith))) refl
    each other false = k.possible other

-- what is kept does not depend on how it is spelt
kept_as : (run : RunFacts) (start : ℕ) (i : ℕ) (own : Facts) (entries more : List Entry) (batches longer : List Batch) (mark next previous later : ℕ → ℕ)
    → Keeps run start i own entries batches mark previous → entries ≡ more → batches ≡ longer → ((r : ℕ) → mark r ≡ next r) → ((r : ℕ) → previous r ≡ later r)
    → Keeps run start i own more longer next later
kept_as run start i own entries more batches longer mark next previous later k e b m p =
    subst (λ (l : List Entry). Keeps run start i own l longer next later) e
    (subst (λ (l : List Batch). Keeps run start i own entries l next later) b (record {
      marks = λ r. k.marks r ∙ m r;
      times = λ r. k.times r ∙ p r;
      low = λ r. subst (λ (n : ℕ). n ≤ length entries) (m r) (k.low r);
      possible = λ r. subst (λ (n : ℕ). each_may_follow own r n (take n entries) (drop n entries) ≡ true) (m r) (k.possible r);
      right = k.right;
    }))

keeps_step : (run : RunFacts) (start : ℕ) (h : History) (i : ℕ) (own : Facts) (event : Event) (reply : Reply) → own.instrument ≡ i → Happens run start h i own event reply
    → Keeps run start i own (accepted run h i) (batches_told h i) (mark_of run h i) (previous_of start h i)
    → Keeps run start i own (accepted run h i ++ added_by run i event reply) (batches_told h i ++ batches_by i event reply)
    (λ r. cond (collects i r event reply) (length (accepted run h i)) (mark_of run h i r))
    (λ r. cond (collects i r event reply) (max (batch_time reply) (previous_of start h i r)) (previous_of start h i r))
keeps_step run start h i own event reply numbered (inl a) k =
    kept_as run start i own _ _ _ _ _ _ _ _
    (keeps_entry run start i own (accepted run h i) (batches_told h i) (mark_of run h i) (previous_of start h i) a.entry k a.allowed a.ranged a.fits)
    (ap (λ (l : List Entry). accepted run h i ++ l) (sym a.adds))
    (sym (append-nil (batches_told h i)) ∙ ap (λ (l : List Batch). batches_told h i ++ l) (sym a.batches))
    (λ r. ap (λ (b : Bool). cond b (length (accepted run h i)) (mark_of run h i r)) (sym (a.collects_none r)))
    (λ r. ap (λ (b : Bool). cond b (max (batch_time reply) (previous_of start h i r)) (previous_of start h i r)) (sym (a.collects_none r)))
keeps_step run start h i own event reply numbered (inr (inl t)) k =
    kept_as run start i own _ _ _ _ _ _ _ _
    (keeps_batch run start i own (accepted run h i) (batches_told h i) (mark_of run h i) (previous_of start h i) (is_closed h i) (granted_of h i) (handed_of h i) t.reader t.now t.told numbered k t.known t.is)
    (sym (append-nil (accepted run h i)) ∙ ap (λ (l : List Entry). accepted run h i ++ l) (sym t.adds))
    (ap (λ (l : List Batch). batches_told h i ++ l) (sym t.batches))
    (λ r. ap (λ (b : Bool). cond b (length (accepted run h i)) (mark_of run h i r)) (sym (t.collects_own r)))
    (λ r. ap (λ (b : Bool). cond b (max t.told.time (previous_of start h i r)) (previous_of start h i r)) (sym (t.collects_own r))
    ∙ ap (λ (n : ℕ). cond (collects i r event reply) (max n (previous_of start h i r)) (previous_of start h i r)) (sym t.timed))
keeps_step run start h i own event reply numbered (inr (inr q)) k =
    kept_as run start i own _ _ _ _ _ _ _ _ k
    (sym (append-nil (accepted run h i)) ∙ ap (λ (l : List Entry). accepted run h i ++ l) (sym q.adds))
    (sym (append-nil (batches_told h i)) ∙ ap (λ (l : List Batch). batches_told h i ++ l) (sym q.batches))
    (λ r. ap (λ (b : Bool). cond b (length (accepted run h i)) (mark_of run h i r)) (sym (q.collects_none r)))
    (λ r. ap (λ (b : Bool). cond b (max (batch_time reply) (previous_of start h i r)) (previous_of start h i r)) (sym (q.collects_none r)))

keeps : (run : RunFacts) (start : ℕ) (i : ℕ) (own : Facts) → IsOwn run i own → (h : History) → IsLegal run start h
    → Keeps run start i own (accepted run h i) (batches_told h i) (mark_of run h i) (previous_of start h i)
keeps run start i own o [] legal = record {
  marks = λ reader. refl;
  times = λ reader. refl;
  low = λ reader. omega arith;
  possible = λ reader. refl;
  right = λ at b found. absurd cc;
}
keeps run start i own o (a ∷ older) legal =
    keeps_step run start older i own a.event a.reply o.numbered (happens run start older i own a.event a.reply o legal.1) (keeps run start i own o older legal.0)

-- Each batch of a legal history is right.
pub batches_are_right : (run : RunFacts) (start : ℕ) (i : ℕ) (own : Facts) → IsOwn run i own → (h : History) → IsLegal run start h
    → AreAllRight own i start (accepted run h i) (batches_told h i)
batches_are_right run start i own o h legal = (keeps run start i own o h legal).right

-- ---- a plan

set_is_allowed : (instruments : List Instrument) (i : ℕ) (own : Facts) (instrument : Instrument) (attrs : List OwnedAttr) (set : List ℕ) → EncodesAllowedSets
    → slice_get instruments i ≡ Some instrument → own.keys ≡ map key_facts instrument.keys → own.allowed ≡ instrument.allowed
    → encode_of instruments i (map given_by_owned attrs) ≡ Ok set → is_allowed_set own set ≡ true
unfolding encode_of
set_is_allowed instruments i own instrument attrs set names at keys allowed named =
    ap (λ all. is_full_set all set && permits own.allowed set) keys
    ∙ ap (λ o. is_full_set (map key_facts instrument.keys) set && permits o set) allowed
    ∙ names instrument (map given_by_owned attrs) set (rw at at named)

plan_owns : (plan : PlanValue) (i : ℕ) (own : Facts) → IsPlan plan → EncodesAllowedSets → slice_get plan.facts.instruments i ≡ Some own → IsOwn plan.facts i own
plan_owns plan i own p names found =
    let here = plan_facts_at plan i own p found in
    record {
      at = found;
      numbered = ap (λ (f : Facts). f.instrument) here.is;
      budgets = ap (λ (f : Facts). length f.budgets) here.is ∙ length-map plan.facts.contents.recorders (λ (recorder : Recorder). amount_of recorder i);
      allowed = λ attrs set named.
          set_is_allowed plan.facts.contents.instruments i own here.instrument attrs set names here.at (ap (λ (f : Facts). f.keys) here.is) (ap (λ (f : Facts). f.allowed) here.is) named;
    }

-- an audit with the slips and batches of a legal history does not fail
first : {A : Type 0} {i : ℕ} (xs : List A) → i < length xs → A
first [] some = absurd (omega arith)
first (x ∷ xs) some = x

never_fails : (run : RunFacts) (start : ℕ) (i : ℕ) (own : Facts) (fault : AuditFault) → IsOwn run i own → (h : History) → IsLegal run start h
    → fault ≢ audits.Memory → EndsAudit run start (accepted run h i) h i own (Err fault) → ⊥
never_fails run start i own (audits.Slips recorder) o h legal other e =
    e.ends.unlike (agrees_with_slips run start i own o h legal e.slips e.made recorder)
never_fails run start i own (audits.Entry at) o h legal other e = none-some at (sym (none_impossible run start i own o h legal) ∙ e.ends.1)
never_fails run start i own (audits.Batch at) o h legal other e = e.ends.2.wrong (batches_are_right run start i own o h legal at)
never_fails run start i own audits.Memory o h legal other e = other refl

-- So where some audit of a run does not end well, memory ran out.
pub only_memory : (plan : PlanValue) (start : ℕ) (h : History) (fault : KitFault) → IsPlan plan → EncodesAllowedSets → IsLegal plan.facts start h
    → SomeFails plan.facts start h fault → fault ≡ kit.Memory
only_memory plan start h kit.Memory p names legal s = refl
only_memory plan start h (kit.Audit fault) p names legal s =
    let own = get_or plan.facts.instruments s.instrument (first plan.facts.instruments s.known) in
    let found : slice_get plan.facts.instruments s.instrument ≡ Some own = slice_get-get_or plan.facts.instruments s.instrument (first plan.facts.instruments s.known) s.known in
    absurd (never_fails plan.facts start s.instrument own fault (plan_owns plan s.instrument own p names found) h legal s.fails.0 (s.fails.1 own found))
only_memory plan start h kit.Read p names legal s = absurd s.fails
only_memory plan start h (kit.Input line) p names legal s = absurd s.fails
only_memory plan start h (kit.Catalogue fault) p names legal s = absurd s.fails
only_memory plan start h (kit.Config fault) p names legal s = absurd s.fails
only_memory plan start h (kit.Certificate fault) p names legal s = absurd s.fails
only_memory plan start h (kit.Check fault) p names legal s = absurd s.fails
only_memory plan start h (kit.Make fault) p names legal s = absurd s.fails
only_memory plan start h (kit.Finish fault) p names legal s = absurd s.fails
only_memory plan start h kit.Write p names legal s = absurd s.fails

-- what an audit answers is how it ends
pub ends_as : (facts : RunFacts) (start : ℕ) (journal : List Entry) (replies : List Reply) (h : History) (i : ℕ) (account : Account) (slips : List (List Slip)) (batches told : List Batch)
    (end result : Result (Unit {0}) AuditFault) → IsAccount facts.contents replies h i account → slips ≡ account.slips.items → batches ≡ batches_at replies account.places.items → told ≡ batches
    → result ≡ end → AuditsInstrument facts i start journal slips told result → AuditEnds facts start journal h i end
ends_as facts start journal replies h i account slips batches told end result a same all copied is audits = λ own found. record {
  slips = account.slips.items;
  made = a.slips;
  ends =
      subst (λ (r : Result (Unit {0}) AuditFault). Audits own i start journal account.slips.items (batches_told h i) r) is
      (subst (λ (l : List Batch). Audits own i start journal account.slips.items l result) (copied ∙ all ∙ a.batches)
      (subst (λ (l : List (List Slip)). Audits own i start journal l told result) same (audits own found)));
}

-- a fault of an audit is why it does not end well
pub fails_as : (facts : RunFacts) (start : ℕ) (journal : List Entry) (h : History) (i : ℕ) (fault : AuditFault) (end : KitFault) → AuditEnds facts start journal h i (Err fault)
    → end ≡ from_audit fault → FailsAudit facts start journal h i end
fails_as facts start journal h i (audits.Slips recorder) end ends is = subst (λ (k : KitFault). FailsAudit facts start journal h i k) (sym is) ((λ same. cc), ends)
fails_as facts start journal h i (audits.Entry at) end ends is = subst (λ (k : KitFault). FailsAudit facts start journal h i k) (sym is) ((λ same. cc), ends)
fails_as facts start journal h i (audits.Batch at) end ends is = subst (λ (k : KitFault). FailsAudit facts start journal h i k) (sym is) ((λ same. cc), ends)
fails_as facts start journal h i audits.Memory end ends is = subst (λ (k : KitFault). FailsAudit facts start journal h i k) (sym is) tt

-- what a run's audits refuse
pub run_refuses : (plan now : PlanValue) (start : ℕ) (events : List Event) (replies : List Reply) (fault : KitFault) → IsPlan plan → EncodesAllowedSets → KeepsLegal
    → AllLegal plan.facts start [] events replies → now ≡ plan → SomeFails now.facts start (grown [] events replies) fault → fault ≡ kit.Memory
run_refuses plan now start events replies fault p names keep legal same some =
    only_memory plan start (grown [] events replies) fault p names (keep plan.facts start [] events replies tt legal)
    (subst (λ (q : PlanValue). SomeFails q.facts start (grown [] events replies) fault) same some)
