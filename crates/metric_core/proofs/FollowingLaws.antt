-- How a cell keeps to a history with one event more.
use Rattle.std.proofs.Common.{◌≡◌, ◌≢◌, ℕ, ◌+◌, ◌<◌, Bool, true, false, ◌&&◌, cond, max, List, [], ◌∷◌, ◌++◌, Option, Some, None, Result, Ok, length, refl, sym, ap, subst, ◌∙◌, arith}
use Rattle.std.specs.Prelude.{◌==◌, nat_lt, slice_get, slice_index, slice_index_or, sum}
use Rattle.std.proofs.lemmas.Bool.{eq-eqb, ne_eqb, ltb-true}
use Rattle.std.proofs.lemmas.Bool.Decides.{nat_tests}
use Rattle.std.proofs.lemmas.List.{append-nil, length-replicate, length-set}
use Rattle.std.proofs.lemmas.List.Folds.{sum_by-replicate}
use Rattle.metric_base.specs.Steps.{◌>>=◌, require, require_some}
use Rattle.metric_history.specs.Journals.{Standing}
use Rattle.metric_contents.specs.declared.contents.Contents.{Contents}
use Rattle.metric_contents.specs.declared.refusal.Refusal.{Refusal}
use Rattle.metric_contents.specs.declared.refusal.Refusal.TheVariants.{UnknownInstrument, UnknownReader, UnknownRecorder}
use Rattle.metric_history.specs.Encoded.{encoded}
use Rattle.metric_history.specs.declared.entry.Entry.{Entry}
use Rattle.metric_history.specs.declared.batch.Batch.{Batch}
use Rattle.metric_history.specs.declared.event.Event.{Event}
use Rattle.metric_history.specs.declared.event.Event.TheVariants.{Record, Collect, Close, Grant}
use Rattle.metric_history.specs.declared.event.Reply.{Reply}
use Rattle.metric_history.specs.declared.event.Reply.TheVariants.{Accepted, Collected, Done, Granted, Refused}
use Rattle.metric_history.specs.Events.{instrument_of}
use Rattle.metric_facts.specs.declared.facts.Facts.{Facts}
use Rattle.metric_facts.specs.Facts.{RunFacts}
use Rattle.metric_history.specs.Answers.{Past, recorded, collected, closing, granting, batch}
use Rattle.metric_history.specs.History.{History, answered, added_by, accepted, collects, mark_of, batch_time, previous_of, closes, is_closed, grants_to, granted_of, grants_of, handed_of, told_of}
use Rattle.metric_history.specs.Legal.{LegalRecord, LegalCollect, LegalClose, LegalGrant, Legal}
use Rattle.metric_core.specs.Cells.{CellStands, CellValue, new_cell, told_by}
use Rattle.metric_core.specs.CellAnswers.{with_batch, with_entry, with_grant}
use Rattle.metric_core.specs.CoreStands.{CellKeepsTo}
use Rattle.metric_core.specs.Steps.{CellStep, cell_after, encoded_entry, outcome}
use Rattle.metric_core.proofs.BudgetLaws.{sum_raised}
use Rattle.metric_core.proofs.CellLaws.{same_everywhere, set_at}

-- an event that changes nothing of an instrument
pub record IsQuiet (facts : RunFacts) (i : ℕ) (event : Event) (reply : Reply) : Type 0 where
  pub adds_none : added_by facts i event reply ≡ []
  pub collects_none : (reader : ℕ) → collects i reader event reply ≡ false
  pub closes_none : closes i event reply ≡ false
  pub grants_none_to : (recorder : ℕ) → grants_to i recorder event reply ≡ 0
  pub grants_none : grants_of i event reply ≡ 0

pub quiet_follows : {B : Type 0} (stands : B → Standing) (facts : RunFacts) (since : ℕ) (c : CellValue B) (h : History) (i : ℕ) (event : Event) (reply : Reply)
    → IsQuiet facts i event reply → CellKeepsTo stands c since (told_of facts since h i) → CellKeepsTo stands c since (told_of facts since (answered event reply ∷ h) i)
quiet_follows stands facts since c h i event reply q s = record {
  known = subst (λ (journal : List Entry). CellStands stands c journal) (sym (ap (λ (more : List Entry). accepted facts h i ++ more) q.adds_none ∙ append-nil (accepted facts h i))) s.known;
  begins = s.begins;
  mark = λ reader. s.mark reader ∙ sym (ap (λ (b : Bool). cond b (length (accepted facts h i)) (mark_of facts h i reader)) (q.collects_none reader));
  previous = λ reader. s.previous reader ∙ sym (ap (λ (b : Bool). cond b (max (batch_time reply) (previous_of since h i reader)) (previous_of since h i reader)) (q.collects_none reader));
  closed = s.closed ∙ sym (ap (λ (b : Bool). cond b true (is_closed h i)) q.closes_none);
  granted = λ recorder. omega (arith, s.granted recorder, q.grants_none_to recorder);
  handed = omega (arith, s.handed, q.grants_none);
  one_mark_each = s.one_mark_each;
  one_time_each = s.one_time_each;
  one_grant_each = s.one_grant_each;
}

-- a refused event
pub refused_is_quiet : (facts : RunFacts) (i : ℕ) (event : Event) (refusal : Refusal) → IsQuiet facts i event (Refused refusal)
refused_is_quiet facts i (Record recorder instrument attrs value) refusal = record { adds_none = refl; collects_none = λ reader. refl; closes_none = refl; grants_none_to = λ recorder. refl; grants_none = refl }
refused_is_quiet facts i (Collect reader instrument now) refusal = record { adds_none = refl; collects_none = λ reader. refl; closes_none = refl; grants_none_to = λ recorder. refl; grants_none = refl }
refused_is_quiet facts i (Close instrument) refusal = record { adds_none = refl; collects_none = λ reader. refl; closes_none = refl; grants_none_to = λ recorder. refl; grants_none = refl }
refused_is_quiet facts i (Grant to instrument amount) refusal = record { adds_none = refl; collects_none = λ reader. refl; closes_none = refl; grants_none_to = λ recorder. refl; grants_none = refl }

-- an event of another instrument
pub elsewhere_is_quiet : (facts : RunFacts) (i : ℕ) (event : Event) (reply : Reply) → instrument_of event ≢ i → IsQuiet facts i event reply
elsewhere_is_quiet facts i (Record recorder instrument attrs value) Accepted other =
    record { adds_none = ap (λ (b : Bool). cond b (encoded_entry recorder (encoded facts.contents instrument attrs) value ∷ []) []) (ne_eqb instrument i other); collects_none = λ reader. refl; closes_none = refl; grants_none_to = λ recorder. refl; grants_none = refl }
elsewhere_is_quiet facts i (Record recorder instrument attrs value) (Collected b) other = record { adds_none = refl; collects_none = λ reader. refl; closes_none = refl; grants_none_to = λ recorder. refl; grants_none = refl }
elsewhere_is_quiet facts i (Record recorder instrument attrs value) Done other = record { adds_none = refl; collects_none = λ reader. refl; closes_none = refl; grants_none_to = λ recorder. refl; grants_none = refl }
elsewhere_is_quiet facts i (Record recorder instrument attrs value) Granted other = record { adds_none = refl; collects_none = λ reader. refl; closes_none = refl; grants_none_to = λ recorder. refl; grants_none = refl }
elsewhere_is_quiet facts i (Record recorder instrument attrs value) (Refused refusal) other = record { adds_none = refl; collects_none = λ reader. refl; closes_none = refl; grants_none_to = λ recorder. refl; grants_none = refl }
elsewhere_is_quiet facts i (Collect by instrument now) Accepted other = record { adds_none = refl; collects_none = λ reader. refl; closes_none = refl; grants_none_to = λ recorder. refl; grants_none = refl }
elsewhere_is_quiet facts i (Collect by instrument now) (Collected b) other =
    record { adds_none = refl; collects_none = λ reader. ap (λ (t : Bool). t && (by == reader)) (ne_eqb instrument i other); closes_none = refl; grants_none_to = λ recorder. refl; grants_none = refl }
elsewhere_is_quiet facts i (Collect by instrument now) Done other = record { adds_none = refl; collects_none = λ reader. refl; closes_none = refl; grants_none_to = λ recorder. refl; grants_none = refl }
elsewhere_is_quiet facts i (Collect by instrument now) Granted other = record { adds_none = refl; collects_none = λ reader. refl; closes_none = refl; grants_none_to = λ recorder. refl; grants_none = refl }
elsewhere_is_quiet facts i (Collect by instrument now) (Refused refusal) other = record { adds_none = refl; collects_none = λ reader. refl; closes_none = refl; grants_none_to = λ recorder. refl; grants_none = refl }
elsewhere_is_quiet facts i (Close instrument) Accepted other = record { adds_none = refl; collects_none = λ reader. refl; closes_none = refl; grants_none_to = λ recorder. refl; grants_none = refl }
elsewhere_is_quiet facts i (Close instrument) (Collected b) other = record { adds_none = refl; collects_none = λ reader. refl; closes_none = refl; grants_none_to = λ recorder. refl; grants_none = refl }
elsewhere_is_quiet facts i (Close instrument) Done other = record { adds_none = refl; collects_none = λ reader. refl; closes_none = ne_eqb instrument i other; grants_none_to = λ recorder. refl; grants_none = refl }
elsewhere_is_quiet facts i (Close instrument) Granted other = record { adds_none = refl; collects_none = λ reader. refl; closes_none = refl; grants_none_to = λ recorder. refl; grants_none = refl }
elsewhere_is_quiet facts i (Close instrument) (Refused refusal) other = record { adds_none = refl; collects_none = λ reader. refl; closes_none = refl; grants_none_to = λ recorder. refl; grants_none = refl }
elsewhere_is_quiet facts i (Grant to instrument amount) Accepted other = record { adds_none = refl; collects_none = λ reader. refl; closes_none = refl; grants_none_to = λ recorder. refl; grants_none = refl }
elsewhere_is_quiet facts i (Grant to instrument amount) (Collected b) other = record { adds_none = refl; collects_none = λ reader. refl; closes_none = refl; grants_none_to = λ recorder. refl; grants_none = refl }
elsewhere_is_quiet facts i (Grant to instrument amount) Done other = record { adds_none = refl; collects_none = λ reader. refl; closes_none = refl; grants_none_to = λ recorder. refl; grants_none = refl }
elsewhere_is_quiet facts i (Grant to instrument amount) Granted other = record {
  adds_none = refl;
  collects_none = λ reader. refl;
  closes_none = refl;
  grants_none_to = λ recorder. ap (λ (t : Bool). cond (t && (to == recorder)) amount 0) (ne_eqb instrument i other);
  grants_none = ap (λ (t : Bool). cond t amount 0) (ne_eqb instrument i other);
}
elsewhere_is_quiet facts i (Grant to instrument amount) (Refused refusal) other = record { adds_none = refl; collects_none = λ reader. refl; closes_none = refl; grants_none_to = λ recorder. refl; grants_none = refl }

-- a batch is that of a known reader
pub collected_known : (known : Bool) (b given : Batch) → LegalCollect (require known UnknownReader >>= λ _. Ok b) (Collected given) → (known ≡ true) × (given ≡ b)
collected_known true b given legal = (refl, legal)
collected_known false b given legal = absurd legal

-- the cell after an accepted recording
recorded_follows : {B : Type 0} (stands : B → Standing) (facts : RunFacts) (since : ℕ) (c new : CellValue B) (h : History) (i : ℕ) (entry : Entry) (event : Event)
    → added_by facts i event Accepted ≡ entry ∷ [] → ((reader : ℕ) → collects i reader event Accepted ≡ false) → closes i event Accepted ≡ false
    → ((recorder : ℕ) → grants_to i recorder event Accepted ≡ 0) → grants_of i event Accepted ≡ 0
    → ((journal : List Entry) → CellStands stands c journal → CellStands stands new (journal ++ entry ∷ [])) → new ≡ with_entry c entry new.book
    → CellKeepsTo stands c since (told_of facts since h i) → CellKeepsTo stands new since (told_of facts since (answered event Accepted ∷ h) i)
recorded_follows {B} stands facts since c new h i entry event adds collects_none closes_none grants_none_to grants_none gains after s = record {
  known = subst (λ (more : List Entry). CellStands stands new (accepted facts h i ++ more)) (sym adds) (gains (accepted facts h i) s.known);
  begins = ap (λ (v : CellValue B). v.start) after ∙ s.begins;
  mark = λ reader. ap (λ (v : CellValue B). slice_index v.marks reader) after ∙ s.mark reader ∙ sym (ap (λ (b : Bool). cond b (length (accepted facts h i)) (mark_of facts h i reader)) (collects_none reader));
  previous = λ reader. ap (λ (v : CellValue B). slice_index_or v.times reader v.start) after ∙ s.previous reader ∙ sym (ap (λ (b : Bool). cond b (max 0 (previous_of since h i reader)) (previous_of since h i reader)) (collects_none reader));
  closed = ap (λ (v : CellValue B). v.is_closed) after ∙ s.closed ∙ sym (ap (λ (b : Bool). cond b true (is_closed h i)) closes_none);
  granted = λ r. omega (arith, ap (λ (v : CellValue B). slice_index v.granted r) after, s.granted r, grants_none_to r);
  handed = omega (arith, ap (λ (v : CellValue B). sum v.granted) after, s.handed, grants_none);
  one_mark_each = ap (λ (v : CellValue B). length v.marks) after ∙ s.one_mark_each ∙ sym (ap (λ (v : CellValue B). length v.facts.delta) after);
  one_time_each = ap (λ (v : CellValue B). length v.times) after ∙ s.one_time_each ∙ sym (ap (λ (v : CellValue B). length v.facts.delta) after);
  one_grant_each = ap (λ (v : CellValue B). length v.granted) after ∙ s.one_grant_each ∙ sym (ap (λ (v : CellValue B). length v.facts.budgets) after);
}

-- the cell after an answered collection
collected_follows : {B : Type 0} (stands : B → Standing) (facts : RunFacts) (since : ℕ) (c new : CellValue B) (h : History) (i q now : ℕ) (b : Batch)
    → LegalCollect (collected c.facts c.start (told_by c (accepted facts h i)) q now) (Collected b)
    → CellStands stands new (accepted facts h i ++ []) → new ≡ with_batch c q b.time new.book
    → CellKeepsTo stands c since (told_of facts since h i) → CellKeepsTo stands new since (told_of facts since (answered (Collect q i now) (Collected b) ∷ h) i)
collected_follows {B} stands facts since c new h i q now b legal kept after s =
    let parts = collected_known (nat_lt q (length c.facts.delta)) (batch c.facts c.start (told_by c (accepted facts h i)) q now) b legal in
    let known : q < length c.facts.delta = ltb-true q (length c.facts.delta) parts.0 in
    let time : b.time ≡ max now (slice_index_or c.times q c.start) = ap (λ (given : Batch). given.time) parts.1 in
    record {
      known = kept;
      begins = ap (λ (v : CellValue B). v.start) after ∙ s.begins;
      mark = λ r.
          ap (λ (v : CellValue B). slice_index v.marks r) after
          ∙ set_at c.marks q r c.count 0 (omega (arith, s.one_mark_each))
          ∙ ap (λ (n : ℕ). cond (q == r) n (slice_index c.marks r)) s.known.counted
          ∙ ap (λ (n : ℕ). cond (q == r) (length (accepted facts h i)) n) (s.mark r)
          ∙ sym (ap (λ (t : Bool). cond (t && (q == r)) (length (accepted facts h i)) (mark_of facts h i r)) (eq-eqb i i refl));
      previous = λ r.
          ap (λ (v : CellValue B). slice_index_or v.times r v.start) after
          ∙ set_at c.times q r b.time c.start (omega (arith, s.one_time_each))
          ∙ later time r (q == r) refl
          ∙ sym (ap (λ (t : Bool). cond (t && (q == r)) (max b.time (previous_of since h i r)) (previous_of since h i r)) (eq-eqb i i refl));
      closed = ap (λ (v : CellValue B). v.is_closed) after ∙ s.closed;
      granted = λ r. ap (λ (v : CellValue B). slice_index v.granted r) after ∙ s.granted r ∙ omega arith;
      handed = ap (λ (v : CellValue B). sum v.granted) after ∙ s.handed ∙ omega arith;
      one_mark_each = ap (λ (v : CellValue B). length v.marks) after ∙ length-set c.marks q c.count ∙ s.one_mark_each ∙ sym (ap (λ (v : CellValue B). length v.facts.delta) after);
      one_time_each = ap (λ (v : CellValue B). length v.times) after ∙ length-set c.times q b.time ∙ s.one_time_each ∙ sym (ap (λ (v : CellValue B). length v.facts.delta) after);
      one_grant_each = ap (λ (v : CellValue B). length v.granted) after ∙ s.one_grant_each ∙ sym (ap (λ (v : CellValue B). length v.facts.budgets) after);
    }
  where
    later : b.time ≡ max now (slice_index_or c.times q c.start) → (r : ℕ) (t : Bool) → (q == r) ≡ t
        → cond t b.time (slice_index_or c.times r c.start) ≡ cond t (max b.time (previous_of since h i r)) (previous_of since h i r)
    later time r true e =
        let same : q ≡ r = grind (arith, nat_tests) in
        let before : slice_index_or c.times q c.start ≡ previous_of since h i r = subst (λ (k : ℕ). slice_index_or c.times q c.start ≡ previous_of since h i k) same (s.previous q) in
        omega (arith, time, before)
    later time r false e = s.previous r

-- the cell after a close
closed_follows : {B : Type 0} (stands : B → Standing) (facts : RunFacts) (since : ℕ) (c new : CellValue B) (h : History) (i : ℕ)
    → CellStands stands new (accepted facts h i ++ []) → new ≡ record c { is_closed = true }
    → CellKeepsTo stands c since (told_of facts since h i) → CellKeepsTo stands new since (told_of facts since (answered (Close i) Done ∷ h) i)
closed_follows {B} stands facts since c new h i kept after s = record {
  known = kept;
  begins = ap (λ (v : CellValue B). v.start) after ∙ s.begins;
  mark = λ r. ap (λ (v : CellValue B). slice_index v.marks r) after ∙ s.mark r;
  previous = λ r. ap (λ (v : CellValue B). slice_index_or v.times r v.start) after ∙ s.previous r;
  closed = ap (λ (v : CellValue B). v.is_closed) after ∙ sym (ap (λ (b : Bool). cond b true (is_closed h i)) (eq-eqb i i refl));
  granted = λ r. ap (λ (v : CellValue B). slice_index v.granted r) after ∙ s.granted r ∙ omega arith;
  handed = ap (λ (v : CellValue B). sum v.granted) after ∙ s.handed ∙ omega arith;
  one_mark_each = ap (λ (v : CellValue B). length v.marks) after ∙ s.one_mark_each ∙ sym (ap (λ (v : CellValue B). length v.facts.delta) after);
  one_time_each = ap (λ (v : CellValue B). length v.times) after ∙ s.one_time_each ∙ sym (ap (λ (v : CellValue B). length v.facts.delta) after);
  one_grant_each = ap (λ (v : CellValue B). length v.granted) after ∙ s.one_grant_each ∙ sym (ap (λ (v : CellValue B). length v.facts.budgets) after);
}

-- a grant is to a known recorder
granted_known : (known : Bool) (rest : Result (Unit {0}) Refusal) → LegalGrant (require known UnknownRecorder >>= λ _. rest) Granted → known ≡ true
granted_known true rest legal = refl
granted_known false rest legal = absurd legal

-- the cell after a grant
granted_follows : {B : Type 0} (stands : B → Standing) (facts : RunFacts) (since : ℕ) (c new : CellValue B) (h : History) (i n amount : ℕ)
    → LegalGrant (granting c.facts (told_by c (accepted facts h i)) n amount) Granted
    → CellStands stands new (accepted facts h i ++ []) → new ≡ with_grant c n amount
    → CellKeepsTo stands c since (told_of facts since h i) → CellKeepsTo stands new since (told_of facts since (answered (Grant n i amount) Granted ∷ h) i)
granted_follows {B} stands facts since c new h i n amount legal kept after s =
    let known : n < length c.granted = omega (arith, s.one_grant_each, ltb-true n (length c.facts.budgets) (granted_known (nat_lt n (length c.facts.budgets)) _ legal)) in
    record {
      known = kept;
      begins = ap (λ (v : CellValue B). v.start) after ∙ s.begins;
      mark = λ r. ap (λ (v : CellValue B). slice_index v.marks r) after ∙ s.mark r;
      previous = λ r. ap (λ (v : CellValue B). slice_index_or v.times r v.start) after ∙ s.previous r;
      closed = ap (λ (v : CellValue B). v.is_closed) after ∙ s.closed;
      granted = λ r.
          ap (λ (v : CellValue B). slice_index v.granted r) after
          ∙ set_at c.granted n r (slice_index c.granted n + amount) 0 known
          ∙ more r (n == r) refl
          ∙ sym (ap (λ (t : Bool). granted_of h i r + cond (t && (n == r)) amount 0) (eq-eqb i i refl));
      handed =
          ap (λ (v : CellValue B). sum v.granted) after
          ∙ sum_raised c.granted n amount known
          ∙ ap (λ (sum_before : ℕ). sum_before + amount) s.handed
          ∙ sym (ap (λ (t : Bool). handed_of h i + cond t amount 0) (eq-eqb i i refl));
      one_mark_each = ap (λ (v : CellValue B). length v.marks) after ∙ s.one_mark_each ∙ sym (ap (λ (v : CellValue B). length v.facts.delta) after);
      one_time_each = ap (λ (v : CellValue B). length v.times) after ∙ s.one_time_each ∙ sym (ap (λ (v : CellValue B). length v.facts.delta) after);
      one_grant_each = ap (λ (v : CellValue B). length v.granted) after ∙ length-set c.granted n (slice_index c.granted n + amount) ∙ s.one_grant_each ∙ sym (ap (λ (v : CellValue B). length v.facts.budgets) after);
    }
  where
    more : (r : ℕ) (t : Bool) → (n == r) ≡ t → cond t (slice_index c.granted n + amount) (slice_index c.granted r) ≡ granted_of h i r + cond t amount 0
    more r true e =
        let same : n ≡ r = grind (arith, nat_tests) in
        let before : slice_index c.granted n ≡ granted_of h i r = subst (λ (k : ℕ). slice_index c.granted n ≡ granted_of h i k) same (s.granted n) in
        omega (arith, before)
    more r false e = omega (arith, s.granted r)

-- the cell after an event that changes nothing
same_follows : {B : Type 0} (stands : B → Standing) (facts : RunFacts) (since : ℕ) (c new : CellValue B) (h : History) (i : ℕ) (event : Event) (reply : Reply)
    → new ≡ c → IsQuiet facts i event reply → CellKeepsTo stands c since (told_of facts since h i) → CellKeepsTo stands new since (told_of facts since (answered event reply ∷ h) i)
same_follows {B} stands facts since c new h i event reply after q s =
    subst (λ (v : CellValue B). CellKeepsTo stands v since (told_of facts since (answered event reply ∷ h) i)) (sym after) (quiet_follows stands facts since c h i event reply q s)

-- the cell after an event of the instrument
pub event_follows : {B : Type 0} (stands : B → Standing) (facts : RunFacts) (since : ℕ) (c new : CellValue B) (h : History) (event : Event) (reply : Reply)
    → CellStep stands facts.contents c event (outcome reply new) → CellKeepsTo stands c since (told_of facts since h (instrument_of event))
    → CellKeepsTo stands new since (told_of facts since (answered event reply ∷ h) (instrument_of event))
event_follows stands facts since c new h (Record n i attrs v) Accepted step s =
    let entry : Entry = encoded_entry n (encoded facts.contents i attrs) v in
    recorded_follows stands facts since c new h i entry (Record n i attrs v) (ap (λ (b : Bool). cond b (entry ∷ []) []) (eq-eqb i i refl)) (λ reader. refl) refl (λ recorder. refl) refl step.gains step.after s
event_follows stands facts since c new h (Record n i attrs v) (Collected b) step s =
    same_follows stands facts since c new h i (Record n i attrs v) (Collected b) step.after (record { adds_none = refl; collects_none = λ reader. refl; closes_none = refl; grants_none_to = λ recorder. refl; grants_none = refl }) s
event_follows stands facts since c new h (Record n i attrs v) Done step s =
    same_follows stands facts since c new h i (Record n i attrs v) Done step.after (record { adds_none = refl; collects_none = λ reader. refl; closes_none = refl; grants_none_to = λ recorder. refl; grants_none = refl }) s
event_follows stands facts since c new h (Record n i attrs v) Granted step s =
    same_follows stands facts since c new h i (Record n i attrs v) Granted step.after (record { adds_none = refl; collects_none = λ reader. refl; closes_none = refl; grants_none_to = λ recorder. refl; grants_none = refl }) s
event_follows stands facts since c new h (Record n i attrs v) (Refused refusal) step s =
    same_follows stands facts since c new h i (Record n i attrs v) (Refused refusal) step.after (refused_is_quiet facts i (Record n i attrs v) refusal) s
event_follows stands facts since c new h (Collect q i now) Accepted step s =
    same_follows stands facts since c new h i (Collect q i now) Accepted step.after (record { adds_none = refl; collects_none = λ reader. refl; closes_none = refl; grants_none_to = λ recorder. refl; grants_none = refl }) s
event_follows stands facts since c new h (Collect q i now) (Collected b) step s =
    collected_follows stands facts since c new h i q now b (step.legal (accepted facts h i) s.known) (step.gains (accepted facts h i) s.known) step.after s
event_follows stands facts since c new h (Collect q i now) Done step s =
    same_follows stands facts since c new h i (Collect q i now) Done step.after (record { adds_none = refl; collects_none = λ reader. refl; closes_none = refl; grants_none_to = λ recorder. refl; grants_none = refl }) s
event_follows stands facts since c new h (Collect q i now) Granted step s =
    same_follows stands facts since c new h i (Collect q i now) Granted step.after (record { adds_none = refl; collects_none = λ reader. refl; closes_none = refl; grants_none_to = λ recorder. refl; grants_none = refl }) s
event_follows stands facts since c new h (Collect q i now) (Refused refusal) step s =
    same_follows stands facts since c new h i (Collect q i now) (Refused refusal) step.after (refused_is_quiet facts i (Collect q i now) refusal) s
event_follows stands facts since c new h (Close i) Accepted step s =
    same_follows stands facts since c new h i (Close i) Accepted step.after (record { adds_none = refl; collects_none = λ reader. refl; closes_none = refl; grants_none_to = λ recorder. refl; grants_none = refl }) s
event_follows stands facts since c new h (Close i) (Collected b) step s =
    same_follows stands facts since c new h i (Close i) (Collected b) step.after (record { adds_none = refl; collects_none = λ reader. refl; closes_none = refl; grants_none_to = λ recorder. refl; grants_none = refl }) s
event_follows stands facts since c new h (Close i) Done step s = closed_follows stands facts since c new h i (step.gains (accepted facts h i) s.known) step.after s
event_follows stands facts since c new h (Close i) Granted step s =
    same_follows stands facts since c new h i (Close i) Granted step.after (record { adds_none = refl; collects_none = λ reader. refl; closes_none = refl; grants_none_to = λ recorder. refl; grants_none = refl }) s
event_follows stands facts since c new h (Close i) (Refused refusal) step s =
    same_follows stands facts since c new h i (Close i) (Refused refusal) step.after (refused_is_quiet facts i (Close i) refusal) s
event_follows stands facts since c new h (Grant n i amount) Accepted step s =
    same_follows stands facts since c new h i (Grant n i amount) Accepted step.after (record { adds_none = refl; collects_none = λ reader. refl; closes_none = refl; grants_none_to = λ recorder. refl; grants_none = refl }) s
event_follows stands facts since c new h (Grant n i amount) (Collected b) step s =
    same_follows stands facts since c new h i (Grant n i amount) (Collected b) step.after (record { adds_none = refl; collects_none = λ reader. refl; closes_none = refl; grants_none_to = λ recorder. refl; grants_none = refl }) s
event_follows stands facts since c new h (Grant n i amount) Done step s =
    same_follows stands facts since c new h i (Grant n i amount) Done step.after (record { adds_none = refl; collects_none = λ reader. refl; closes_none = refl; grants_none_to = λ recorder. refl; grants_none = refl }) s
event_follows stands facts since c new h (Grant n i amount) Granted step s =
    granted_follows stands facts since c new h i n amount (step.legal (accepted facts h i) s.known) (step.gains (accepted facts h i) s.known) step.after s
event_follows stands facts since c new h (Grant n i amount) (Refused refusal) step s =
    same_follows stands facts since c new h i (Grant n i amount) (Refused refusal) step.after (refused_is_quiet facts i (Grant n i amount) refusal) s

-- what the cell tells is what the history comes to
same_told : {B : Type 0} (stands : B → Standing) (facts : RunFacts) (since : ℕ) (c : CellValue B) (h : History) (i : ℕ) → CellKeepsTo stands c since (told_of facts since h i)
    → told_by c (accepted facts h i) ≡ told_of facts since h i
same_told stands facts since c h i s = λ j. record {
  accepted = accepted facts h i;
  mark = λ reader. s.mark reader j;
  previous = λ reader. s.previous reader j;
  closed = s.closed j;
  granted = λ recorder. s.granted recorder j;
  handed = s.handed j;
}

-- what is legal for the cell is legal after the history
pub event_legal : {B : Type 0} (stands : B → Standing) (facts : RunFacts) (since : ℕ) (c new : CellValue B) (h : History) (event : Event) (reply : Reply)
    → slice_get facts.instruments (instrument_of event) ≡ Some c.facts → CellKeepsTo stands c since (told_of facts since h (instrument_of event))
    → CellStep stands facts.contents c event (outcome reply new) → Legal facts since h event reply
event_legal stands facts since c new h (Record n i attrs v) reply known s step =
    let given = encoded facts.contents i attrs in
    subst (λ (answer : Result Entry Refusal). LegalRecord answer reply)
    (ap (λ (t : Past). recorded c.facts t given n v) (same_told stands facts since c h i s)
    ∙ sym (ap (λ (o : Option Facts). require_some o UnknownInstrument >>= λ f. recorded f (told_of facts since h i) given n v) known)) (step.legal (accepted facts h i) s.known)
event_legal stands facts since c new h (Collect q i now) reply known s step =
    subst (λ (answer : Result Batch Refusal). LegalCollect answer reply)
    (ap (λ (t : Past). collected c.facts c.start t q now) (same_told stands facts since c h i s)
    ∙ ap (λ (n : ℕ). collected c.facts n (told_of facts since h i) q now) s.begins
    ∙ sym (ap (λ (o : Option Facts). require_some o UnknownInstrument >>= λ f. collected f since (told_of facts since h i) q now) known)) (step.legal (accepted facts h i) s.known)
event_legal stands facts since c new h (Close i) reply known s step =
    subst (λ (answer : Result (Unit {0}) Refusal). LegalClose answer reply)
    (ap closing (same_told stands facts since c h i s)
    ∙ sym (ap (λ (o : Option Facts). require_some o UnknownInstrument >>= λ f. closing (told_of facts since h i)) known)) (step.legal (accepted facts h i) s.known)
event_legal stands facts since c new h (Grant n i amount) reply known s step =
    subst (λ (answer : Result (Unit {0}) Refusal). LegalGrant answer reply)
    (ap (λ (t : Past). granting c.facts t n amount) (same_told stands facts since c h i s)
    ∙ sym (ap (λ (o : Option Facts). require_some o UnknownInstrument >>= λ f. granting f (told_of facts since h i) n amount) known)) (step.legal (accepted facts h i) s.known)

-- an event of an unknown instrument
pub unknown_legal : (facts : RunFacts) (since : ℕ) (h : History) (event : Event) → slice_get facts.instruments (instrument_of event) ≡ None
    → Legal facts since h event (Refused UnknownInstrument)
unknown_legal facts since h (Record n i attrs v) unknown =
    let given = encoded facts.contents i attrs in
    subst (λ (o : Option Facts). LegalRecord (require_some o UnknownInstrument >>= λ f. recorded f (told_of facts since h i) given n v) (Refused UnknownInstrument)) (sym unknown) refl
unknown_legal facts since h (Collect q i now) unknown =
    subst (λ (o : Option Facts). LegalCollect (require_some o UnknownInstrument >>= λ f. collected f since (told_of facts since h i) q now) (Refused UnknownInstrument)) (sym unknown) refl
unknown_legal facts since h (Close i) unknown =
    subst (λ (o : Option Facts). LegalClose (require_some o UnknownInstrument >>= λ f. closing (told_of facts since h i)) (Refused UnknownInstrument)) (sym unknown) refl
unknown_legal facts since h (Grant n i amount) unknown =
    subst (λ (o : Option Facts). LegalGrant (require_some o UnknownInstrument >>= λ f. granting f (told_of facts since h i) n amount) (Refused UnknownInstrument)) (sym unknown) refl

-- an event keeps the facts of its cell
pub cell_facts : {B : Type 0} (contents : Contents) (c : CellValue B) (event : Event) (reply : Reply) (book : B) → (cell_after contents c event reply book).facts ≡ c.facts
cell_facts contents c (Record n i attrs v) Accepted book = refl
cell_facts contents c (Record n i attrs v) (Collected b) book = refl
cell_facts contents c (Record n i attrs v) Done book = refl
cell_facts contents c (Record n i attrs v) Granted book = refl
cell_facts contents c (Record n i attrs v) (Refused refusal) book = refl
cell_facts contents c (Collect q i now) Accepted book = refl
cell_facts contents c (Collect q i now) (Collected b) book = refl
cell_facts contents c (Collect q i now) Done book = refl
cell_facts contents c (Collect q i now) Granted book = refl
cell_facts contents c (Collect q i now) (Refused refusal) book = refl
cell_facts contents c (Close i) Accepted book = refl
cell_facts contents c (Close i) (Collected b) book = refl
cell_facts contents c (Close i) Done book = refl
cell_facts contents c (Close i) Granted book = refl
cell_facts contents c (Close i) (Refused refusal) book = refl
cell_facts contents c (Grant n i amount) Accepted book = refl
cell_facts contents c (Grant n i amount) (Collected b) book = refl
cell_facts contents c (Grant n i amount) Done book = refl
cell_facts contents c (Grant n i amount) Granted book = refl
cell_facts contents c (Grant n i amount) (Refused refusal) book = refl

-- a cell without recordings keeps to the empty history
pub new_follows : {B : Type 0} (stands : B → Standing) (facts : RunFacts) (start i : ℕ) (c : CellValue B) → c ≡ new_cell c.facts start c.book → CellStands stands c []
    → CellKeepsTo stands c start (told_of facts start [] i)
new_follows {B} stands facts start i c made s = record {
  known = s;
  begins = ap (λ (v : CellValue B). v.start) made;
  mark = λ r. ap (λ (v : CellValue B). slice_index v.marks r) made ∙ same_everywhere (length c.facts.delta) 0 r;
  previous = λ r. ap (λ (v : CellValue B). slice_index_or v.times r v.start) made ∙ same_everywhere (length c.facts.delta) start r;
  closed = ap (λ (v : CellValue B). v.is_closed) made;
  granted = λ r. ap (λ (v : CellValue B). slice_index v.granted r) made ∙ same_everywhere (length c.facts.budgets) 0 r;
  handed = ap (λ (v : CellValue B). sum v.granted) made ∙ sum_by-replicate (λ (n : ℕ). n) (length c.facts.budgets) 0 ∙ omega arith;
  one_mark_each = ap (λ (v : CellValue B). length v.marks) made ∙ length-replicate (length c.facts.delta) 0;
  one_time_each = ap (λ (v : CellValue B). length v.times) made ∙ length-replicate (length c.facts.delta) start;
  one_grant_each = ap (λ (v : CellValue B). length v.granted) made ∙ length-replicate (length c.facts.budgets) 0;
}
