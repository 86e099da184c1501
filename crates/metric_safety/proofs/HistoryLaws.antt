-- What a legal history of a safe run can be: its accepted recordings stay within the budgets and grants, so nothing
-- overflows.
use Rattle.std.proofs.Common.{◌≡◌, ℕ, zero, suc, ◌+◌, ◌-◌, ◌<◌, ◌≤◌, ℤ, Bool, true, false, ◌&&◌, not, cond, List, [], ◌∷◌, ◌++◌, length, map, set, replicate, Option, Some, None, Result, Ok, Err, ◌⊎◌, inl, inr, refl, sym, ap, subst, ◌∙◌, arith}
use Rattle.std.specs.Prelude.{sum, unwrap_or, slice_get, slice_index, slice_set, nat_le, nat_lt, ◌==◌}
use Rattle.std.specs.List.{list_all}
use Rattle.std.specs.Result.{result_unwrap_or}
use Rattle.std.proofs.lemmas.Bool.{and_from, eq-eqb, eqb-true, leb-true, ltb-true, true≢false, cases_eq, cases_lt}
use Rattle.std.proofs.lemmas.List.{append-nil, get_or-set_same, get_or-set_other, get_or_past, length-map, length-append, length-replicate, length-set}
use Rattle.std.proofs.lemmas.List.Folds.{list_all-append}
use Rattle.std.proofs.lemmas.List.Sums.{sum_by-cons, sum_by-set, sum_by_push}
use Rattle.metric_base.specs.StepLaws.{after_ok, require_ok, ok_is}
use Rattle.metric_base.specs.Steps.{require, require_some}
use Rattle.metric_combinations.specs.Combinations.{permits}
use Rattle.metric_contents.specs.Attributes.{given_by_owned}
use Rattle.metric_contents.specs.Encoding.{Given, allowed_set, encode_of, entry_at, has_declared_value, has_repeated_key, is_complete, is_declared, set_key, set_of}
use Rattle.metric_contents.specs.declared.attributes.OwnedAttr.{OwnedAttr}
use Rattle.metric_contents.specs.declared.contents.Instrument.{Instrument}
use Rattle.metric_contents.specs.declared.contents.Key.{Key}
use Rattle.metric_contents.specs.declared.refusal.Refusal.{Refusal}
use Rattle.metric_contents.specs.declared.refusal.Refusal.TheVariants.{UnknownInstrument, UnknownRecorder, DuplicateKey, UnknownKey, UnknownValue, MissingKey, Combination, ValueRange, Closed, Budget, NoSpare}
use Rattle.metric_views.specs.declared.stream.Stream.{Stream}
use Rattle.metric_history.specs.declared.entry.Entry.{Entry}
use Rattle.metric_history.specs.declared.event.Event.{Event}
use Rattle.metric_history.specs.declared.event.Event.TheVariants.{Record, Collect, Close, Grant}
use Rattle.metric_history.specs.declared.event.Reply.{Reply}
use Rattle.metric_history.specs.declared.event.Reply.TheVariants.{Accepted, Collected, Done, Granted, Refused}
use Rattle.metric_facts.specs.declared.facts.Facts.{Facts}
use Rattle.metric_history.specs.Answers.{granting, recorded, spent}
use Rattle.metric_history.specs.Encoded.{encoded}
use Rattle.metric_facts.specs.Facts.{EncodesAllowedSets, RunFacts, in_bounds, is_allowed_set, is_full_set, key_facts}
use Rattle.metric_history.specs.History.{History, accepted, added_by, granted_of, grants_of, grants_to, handed_of, is_closed, told_of}
use Rattle.metric_history.specs.Legal.{IsLegal, Legal, LegalGrant, LegalRecord, grant, recording}
use Rattle.metric_safety.specs.SafeFacts.{IsJournal, is_admitted, are_admitted}
use Rattle.metric_safety.specs.SafeRuns.{IsSafeRun, KeepsBudgets}

-- ---- budgets

-- Entries of which each recorder has no more than its budget are no more than all budgets.
budgets_hold : (entries : List Entry) (budgets : List ℕ) → ((recorder : ℕ) → spent entries recorder ≤ slice_index budgets recorder) → length entries ≤ sum budgets
budgets_hold [] budgets within = omega arith
budgets_hold (entry ∷ entries) budgets within =
    by (first entry entries (slice_index budgets entry.recorder) (within entry.recorder))
    (λ there some. budgets_hold entries (slice_set budgets entry.recorder (slice_index budgets entry.recorder - 1)) (λ r. later r there some (cases_eq r entry.recorder)))
  where
    -- the first entry is one of its recorder's
    first : (entry : Entry) (entries : List Entry) (most : ℕ) → spent (entry ∷ entries) entry.recorder ≤ most → 1 + spent entries entry.recorder ≤ most
    first entry entries most few =
        omega (arith, few, sum_by-cons (λ (e : Entry). cond (e.recorder == entry.recorder) 1 0) entry entries, ap {B = ℕ} (λ (b : Bool). cond b 1 0) (eq-eqb entry.recorder entry.recorder refl))

    inside : 1 + spent entries entry.recorder ≤ slice_index budgets entry.recorder → (entry.recorder < length budgets) ⊎ (length budgets ≤ entry.recorder) → entry.recorder < length budgets
    inside some (inl below) = below
    inside some (inr past) = absurd (omega (arith, some, get_or_past budgets entry.recorder 0 past))

    later : (r : ℕ) → entry.recorder < length budgets → 1 + spent entries entry.recorder ≤ slice_index budgets entry.recorder → (r ≡ entry.recorder) ⊎ (r ≡ entry.recorder → ⊥)
        → spent entries r ≤ slice_index (slice_set budgets entry.recorder (slice_index budgets entry.recorder - 1)) r
    later r there some (inl same) =
        subst (λ (k : ℕ). spent entries k ≤ slice_index (slice_set budgets entry.recorder (slice_index budgets entry.recorder - 1)) k) (sym same)
        (omega (arith, some, get_or-set_same budgets entry.recorder (slice_index budgets entry.recorder - 1) 0 there))
    later r there some (inr other) =
        omega (arith, within r, get_or-set_other budgets entry.recorder r (slice_index budgets entry.recorder - 1) 0 other, sum_by-cons (λ (e : Entry). cond (e.recorder == r) 1 0) entry entries)

    less : (at : ℕ) (budgets : List ℕ) (n : ℕ) → at < length budgets → 1 ≤ slice_index budgets at → n ≤ sum (slice_set budgets at (slice_index budgets at - 1)) → n + 1 ≤ sum budgets
    less at budgets n there some few = omega (arith, some, few, sum_by-set (λ (n : ℕ). n) budgets at (slice_index budgets at - 1) 0 there)

    by : 1 + spent entries entry.recorder ≤ slice_index budgets entry.recorder
        → (entry.recorder < length budgets → 1 + spent entries entry.recorder ≤ slice_index budgets entry.recorder → length entries ≤ sum (slice_set budgets entry.recorder (slice_index budgets entry.recorder - 1)))
        → length (entry ∷ entries) ≤ sum budgets
    by some rest =
        omega (arith, less entry.recorder budgets (length entries) (inside some (cases_lt entry.recorder (length budgets))) (omega (arith, some)) (rest (inside some (cases_lt entry.recorder (length budgets))) some))

-- what two lists have together, place by place
joined : List ℕ → List ℕ → List ℕ
joined [] grants = grants
joined (budget ∷ budgets) [] = budget ∷ budgets
joined (budget ∷ budgets) (amount ∷ grants) = (budget + amount) ∷ joined budgets grants

joined_sum : (budgets grants : List ℕ) → sum (joined budgets grants) ≡ sum budgets + sum grants
unfolding joined
joined_sum [] grants = omega arith
joined_sum (budget ∷ budgets) [] = omega arith
joined_sum (budget ∷ budgets) (amount ∷ grants) =
    omega (arith, sum_by-cons (λ (n : ℕ). n) budget budgets, sum_by-cons (λ (n : ℕ). n) amount grants, sum_by-cons (λ (n : ℕ). n) (budget + amount) (joined budgets grants), joined_sum budgets grants)

joined_at : (budgets grants : List ℕ) (r : ℕ) → slice_index (joined budgets grants) r ≡ slice_index budgets r + slice_index grants r
unfolding joined
joined_at [] grants r = omega (arith, get_or_past {X = ℕ} [] r 0 (omega arith))
joined_at (budget ∷ budgets) [] r = omega (arith, get_or_past {X = ℕ} [] r 0 (omega arith))
joined_at (budget ∷ budgets) (amount ∷ grants) zero = refl
joined_at (budget ∷ budgets) (amount ∷ grants) (suc r) = joined_at budgets grants r

-- no grants
none : List ℕ → List ℕ
none [] = []
none (budget ∷ budgets) = 0 ∷ none budgets

none_long : (budgets : List ℕ) → length (none budgets) ≡ length budgets
unfolding none
none_long [] = refl
none_long (budget ∷ budgets) = omega (arith, none_long budgets)

none_sum : (budgets : List ℕ) → sum (none budgets) ≡ 0
unfolding none
none_sum [] = refl
none_sum (budget ∷ budgets) = omega (arith, sum_by-cons (λ (n : ℕ). n) 0 (none budgets), none_sum budgets)

none_at : (budgets : List ℕ) (r : ℕ) → slice_index (none budgets) r ≡ 0
unfolding none
none_at [] r = get_or_past {X = ℕ} [] r 0 (omega arith)
none_at (budget ∷ budgets) zero = refl
none_at (budget ∷ budgets) (suc r) = none_at budgets r

-- The grants of recorders as a list beside the budgets: they are no more together than the spare.
pub record AreGrants (own : Facts) (granted : ℕ → ℕ) (handed : ℕ) : Type 0 where
  pub grants : List ℕ
  pub long : length grants ≡ length own.budgets
  pub each : (recorder : ℕ) → slice_index grants recorder ≡ granted recorder
  pub together : sum grants ≡ handed
  pub within : handed ≤ own.spare

-- Recordings are admitted, and each recorder's are within its budget and what it was granted.
pub record IsSpent (own : Facts) (granted : ℕ → ℕ) (journal : List Entry) : Type 0 where
  pub admitted : are_admitted own journal ≡ true
  pub within : (recorder : ℕ) → spent journal recorder ≤ slice_index own.budgets recorder + granted recorder

pub journal_of : (own : Facts) (granted : ℕ → ℕ) (handed : ℕ) (journal : List Entry) → IsSpent own granted journal → AreGrants own granted handed → IsJournal own journal
journal_of own granted handed journal own_spent given = record {
  admitted = own_spent.admitted;
  budgeted =
      let few : length journal ≤ sum (joined own.budgets given.grants) =
      budgets_hold journal (joined own.budgets given.grants) (λ r. omega (arith, own_spent.within r, given.each r, joined_at own.budgets given.grants r)) in
      omega (arith, few, joined_sum own.budgets given.grants, given.together, given.within);
}

-- one recording more, by a recorder with something left
pub one_more : (own : Facts) (granted : ℕ → ℕ) (journal : List Entry) (entry : Entry) → IsSpent own granted journal → is_admitted own entry ≡ true
    → spent journal entry.recorder < slice_index own.budgets entry.recorder + granted entry.recorder → IsSpent own granted (journal ++ entry ∷ [])
one_more own granted journal entry before admits left =
    record {
      admitted = list_all-append (is_admitted own) journal (entry ∷ []) ∙ and_from (are_admitted own journal) (are_admitted own (entry ∷ [])) before.admitted (and_from (is_admitted own entry) true admits refl);
      within = λ r. by r (entry.recorder == r) refl;
    }
  where
    by : (r : ℕ) (b : Bool) → (entry.recorder == r) ≡ b → spent (journal ++ entry ∷ []) r ≤ slice_index own.budgets r + granted r
    by r true e =
        let same : entry.recorder ≡ r = eqb-true entry.recorder r e in
        let counted : spent (journal ++ entry ∷ []) r ≡ spent journal r + cond (entry.recorder == r) 1 0 = sum_by_push (λ (x : Entry). cond (x.recorder == r) 1 0) journal entry in
        let one : cond (entry.recorder == r) 1 0 ≡ 1 = ap {B = ℕ} (λ (b : Bool). cond b 1 0) e in
        let some : spent journal r < slice_index own.budgets r + granted r = subst (λ (k : ℕ). spent journal k < slice_index own.budgets k + granted k) same left in
        omega (arith, counted, one, some)
    by r false e =
        let counted : spent (journal ++ entry ∷ []) r ≡ spent journal r + cond (entry.recorder == r) 1 0 = sum_by_push (λ (x : Entry). cond (x.recorder == r) 1 0) journal entry in
        let none : cond (entry.recorder == r) 1 0 ≡ 0 = ap {B = ℕ} (λ (b : Bool). cond b 1 0) e in
        omega (arith, counted, none, before.within r)

-- what is granted more leaves recordings within
granted_more : (own : Facts) (granted more : ℕ → ℕ) (journal : List Entry) → IsSpent own granted journal → IsSpent own (λ r. granted r + more r) journal
granted_more own granted more journal before = record { admitted = before.admitted; within = λ r. omega (arith, before.within r) }

none_more : (own : Facts) (granted more : ℕ → ℕ) (journal : List Entry) → IsSpent own granted journal → IsSpent own (λ r. granted r + more r) (journal ++ [])
none_more own granted more journal before =
    subst (IsSpent own (λ r. granted r + more r)) (sym (append-nil journal)) (granted_more own granted more journal before)

-- one grant more
one_grant : (own : Facts) (granted : ℕ → ℕ) (handed to amount : ℕ) → AreGrants own granted handed → to < length own.budgets → amount ≤ own.spare - handed
    → AreGrants own (λ r. granted r + cond (to == r) amount 0) (handed + amount)
one_grant own granted handed to amount before known left = record {
  grants = slice_set before.grants to (slice_index before.grants to + amount);
  long = length-set before.grants to (slice_index before.grants to + amount) ∙ before.long;
  each = λ r. at r (to == r) refl;
  together =
      omega (arith, before.together, sum_by-set (λ (n : ℕ). n) before.grants to (slice_index before.grants to + amount) 0 there);
  within = omega (arith, left, before.within);
}
  where
    there : to < length before.grants
    there = omega (arith, known, before.long)

    at : (r : ℕ) (b : Bool) → (to == r) ≡ b → slice_index (slice_set before.grants to (slice_index before.grants to + amount)) r ≡ granted r + cond (to == r) amount 0
    at r true e =
        let given : cond (to == r) amount 0 ≡ amount = ap {B = ℕ} (λ (b : Bool). cond b amount 0) e in
        let here : slice_index (slice_set before.grants to (slice_index before.grants to + amount)) r ≡ slice_index before.grants r + amount =
        subst (λ (k : ℕ). slice_index (slice_set before.grants to (slice_index before.grants to + amount)) k ≡ slice_index before.grants k + amount) (eqb-true to r e)
        (get_or-set_same before.grants to (slice_index before.grants to + amount) 0 there) in
        omega (arith, given, here, before.each r)
    at r false e =
        let given : cond (to == r) amount 0 ≡ 0 = ap {B = ℕ} (λ (b : Bool). cond b amount 0) e in
        omega (arith, given, before.each r, get_or-set_other before.grants to r (slice_index before.grants to + amount) 0 (λ same. true≢false (sym (eq-eqb to r (sym same)) ∙ e)))

no_grant : (own : Facts) (granted : ℕ → ℕ) (handed : ℕ) → AreGrants own granted handed → AreGrants own (λ r. granted r + 0) (handed + 0)
no_grant own granted handed before = record {
  grants = before.grants;
  long = before.long;
  each = λ r. omega (arith, before.each r);
  together = omega (arith, before.together);
  within = omega (arith, before.within);
}

-- ---- encoded sets

set_key_long : (keys : List Key) (attrs : List Given) (set : List ℕ) → length keys ≤ 8 → set_of keys attrs ≡ Ok set → length set ≡ 8
unfolding set_of
set_key_long keys attrs set few made =
    let new = require_ok (not (has_repeated_key attrs)) DuplicateKey _ set made in
    let known = require_ok (list_all (is_declared keys) attrs) UnknownKey _ set new.1 in
    let allowed = require_ok (list_all (has_declared_value keys) attrs) UnknownValue _ set known.1 in
    let complete = require_ok (list_all (is_complete attrs) keys) MissingKey _ set allowed.1 in
    let is : set_key keys attrs ≡ set = ok_is (set_key keys attrs) set (Ok (set_key keys attrs)) refl complete.1 in
    let long : length (set_key keys attrs) ≡ length keys + (8 - length keys) =
    length-append (map (λ key. unwrap_or (entry_at attrs key) 0) keys) (replicate (8 - length keys) 0) ∙ both (length-map keys (λ key. unwrap_or (entry_at attrs key) 0)) (length-replicate (8 - length keys) 0) in
    omega (arith, few, long, ap length is)
  where
    both : {a b c d : ℕ} → a ≡ b → c ≡ d → a + c ≡ b + d
    both p q = cc

set_long : (instrument : Instrument) (attrs : List Given) (set : List ℕ) → length instrument.keys ≤ 8 → allowed_set instrument attrs ≡ Ok set → length set ≡ 8
unfolding allowed_set
set_long instrument attrs set few made =
    after_ok (set_of instrument.keys attrs) _ set made
    (λ own named rest.
    let permitted = require_ok (permits instrument.allowed own) Combination _ set rest in
    ap length (sym (ok_is own set (Ok own) refl permitted.1)) ∙ set_key_long instrument.keys attrs own few named)

-- the set key that attributes name for an instrument of a safe run
pub record IsOwnSet (own : Facts) (set : List ℕ) : Type 0 where
  pub long : length set ≡ 8
  pub allowed : is_allowed_set own set ≡ true

pub encoded_set : EncodesAllowedSets → (streams : List Stream) (facts : RunFacts) → IsSafeRun streams facts → (number : ℕ) (own : Facts) → slice_get facts.instruments number ≡ Some own
    → (attrs : List OwnedAttr) (set : List ℕ) → encoded facts.contents number attrs ≡ Ok set → IsOwnSet own set
unfolding encode_of
encoded_set names streams facts run number own at attrs set made =
    after_ok (require_some (slice_get facts.contents.instruments number) UnknownInstrument) (λ instrument. allowed_set instrument (map given_by_owned attrs)) set made
    (λ instrument found rest. of instrument (there (slice_get facts.contents.instruments number) instrument found) rest)
  where
    there : (o : Option Instrument) (instrument : Instrument) → require_some o UnknownInstrument ≡ Ok instrument → o ≡ Some instrument
    there None instrument e = absurd cc
    there (Some i) instrument e = let same : i ≡ instrument = cc in ap Some same

    of : (instrument : Instrument) → slice_get facts.contents.instruments number ≡ Some instrument → allowed_set instrument (map given_by_owned attrs) ≡ Ok set → IsOwnSet own set
    of instrument found rest =
        let keys : own.keys ≡ map key_facts instrument.keys = run.keys number own instrument at found in
        let few : length own.keys ≤ 8 = run.few_keys number own at in
        record {
          long = set_long instrument (map given_by_owned attrs) set (omega (arith, few, ap length keys, length-map instrument.keys key_facts)) rest;
          allowed = ap (λ all. is_full_set all set && permits own.allowed set) keys
              ∙ ap (λ o. is_full_set (map key_facts instrument.keys) set && permits o set) (run.allowed number own instrument at found)
              ∙ names instrument (map given_by_owned attrs) set rest;
        }

pub admits_set : (own : Facts) (recorder : ℕ) (set : List ℕ) (value : ℤ) → IsOwnSet own set → in_bounds own value ≡ true → is_admitted own (record { recorder = recorder; set = set; value = value }) ≡ true
admits_set own recorder set value known ranged =
    and_from (length set == 8) (is_allowed_set own set && in_bounds own value) (eq-eqb (length set) 8 known.long)
    (and_from (is_allowed_set own set) (in_bounds own value) known.allowed ranged)

-- ---- what an answer shows

-- a recording that nothing refused
record IsRecorded (facts : RunFacts) (start : ℕ) (h : History) (recorder number : ℕ) (attrs : List OwnedAttr) (value : ℤ) : Type 0 where
  own : Facts
  set : List ℕ
  known : slice_get facts.instruments number ≡ Some own
  named : encoded facts.contents number attrs ≡ Ok set
  ranged : in_bounds own value ≡ true
  left : spent (accepted facts h number) recorder < slice_index own.budgets recorder + granted_of h number recorder

pub known_own : (o : Option Facts) (own : Facts) → require_some o UnknownInstrument ≡ Ok own → o ≡ Some own
known_own None own e = absurd cc
known_own (Some x) own e = let same : x ≡ own = cc in ap Some same

recording_shows : (facts : RunFacts) (start : ℕ) (h : History) (recorder number : ℕ) (attrs : List OwnedAttr) (value : ℤ) (entry : Entry)
    → recording facts start h recorder number attrs value ≡ Ok entry → IsRecorded facts start h recorder number attrs value
recording_shows facts start h recorder number attrs value entry made =
    after_ok (require_some (slice_get facts.instruments number) UnknownInstrument) (λ own. recorded own (told_of facts start h number) (encoded facts.contents number attrs) recorder value) entry made
    (λ own found rest.
    let by_recorder = require_ok (nat_lt recorder (length own.budgets)) UnknownRecorder _ entry rest in
    after_ok (encoded facts.contents number attrs) _ entry by_recorder.1
    (λ set named later.
    let ranged = require_ok (in_bounds own value) ValueRange _ entry later in
    let opened = require_ok (not (is_closed h number)) Closed _ entry ranged.1 in
    let budgeted = require_ok (nat_lt (spent (accepted facts h number) recorder) (slice_index own.budgets recorder + granted_of h number recorder)) Budget _ entry opened.1 in
    record {
      own = own;
      set = set;
      known = known_own (slice_get facts.instruments number) own found;
      named = named;
      ranged = ranged.0;
      left = ltb-true (spent (accepted facts h number) recorder) (slice_index own.budgets recorder + granted_of h number recorder) budgeted.0;
    }))

-- a grant that nothing refused
record IsGranted (facts : RunFacts) (h : History) (to number amount : ℕ) : Type 0 where
  own : Facts
  known : slice_get facts.instruments number ≡ Some own
  by_recorder : to < length own.budgets
  left : amount ≤ own.spare - handed_of h number

grant_shows : (facts : RunFacts) (start : ℕ) (h : History) (to number amount : ℕ) (done : Unit {0})
    → grant facts start h to number amount ≡ Ok done → IsGranted facts h to number amount
grant_shows facts start h to number amount done made =
    after_ok (require_some (slice_get facts.instruments number) UnknownInstrument) (λ own. granting own (told_of facts start h number) to amount) done made
    (λ own found rest.
    let by_recorder = require_ok (nat_lt to (length own.budgets)) UnknownRecorder _ done rest in
    let opened = require_ok (not (is_closed h number)) Closed _ done by_recorder.1 in
    record {
      own = own;
      known = known_own (slice_get facts.instruments number) own found;
      by_recorder = ltb-true to (length own.budgets) by_recorder.0;
      left = leb-true amount (own.spare - handed_of h number) (passed (nat_le amount (own.spare - handed_of h number)) opened.1);
    })
  where
    passed : (b : Bool) → require b NoSpare ≡ Ok done → b ≡ true
    passed true e = refl
    passed false e = absurd cc

record IsAnswer {A : Type 0} (r : Result A Refusal) : Type 0 where
  answer : A
  is : r ≡ Ok answer

legal_accepted : (r : Result Entry Refusal) → LegalRecord r Accepted → IsAnswer r
legal_accepted (Ok entry) legal = record { answer = entry; is = refl }
legal_accepted (Err refusal) legal = absurd legal

legal_granted : (r : Result (Unit {0}) Refusal) → LegalGrant r Granted → IsAnswer r
legal_granted (Ok done) legal = record { answer = done; is = refl }
legal_granted (Err refusal) legal = absurd legal

one_own : (a b : Facts) (o : Option Facts) → o ≡ Some a → o ≡ Some b → a ≡ b
one_own a b o p q = cc

-- ---- the accepted recordings of a legal history

-- one event more
recorded_within : EncodesAllowedSets → (streams : List Stream) (facts : RunFacts) → IsSafeRun streams facts → (start : ℕ) (h : History) (number : ℕ) (own : Facts) → slice_get facts.instruments number ≡ Some own
    → IsSpent own (granted_of h number) (accepted facts h number) → (event : Event) (reply : Reply) → Legal facts start h event reply
    → IsSpent own (λ r. granted_of h number r + grants_to number r event reply) (accepted facts h number ++ added_by facts number event reply)
recorded_within names streams facts run start h number own at before (Record recorder instrument attrs value) Accepted legal =
    by (instrument == number) refl
  where
    entry : Entry
    entry = record { recorder = recorder; set = result_unwrap_or (encoded facts.contents instrument attrs) []; value = value }

    shown : IsRecorded facts start h recorder instrument attrs value
    shown =
        let answer = legal_accepted (recording facts start h recorder instrument attrs value) legal in
        recording_shows facts start h recorder instrument attrs value answer.answer answer.is

    by : (b : Bool) → (instrument == number) ≡ b → IsSpent own (λ r. granted_of h number r + 0) (accepted facts h number ++ cond b (record { recorder = recorder; set = result_unwrap_or (encoded facts.contents instrument attrs) []; value = value } ∷ []) [])
    by false e = none_more own (granted_of h number) (λ r. 0) (accepted facts h number) before
    by true e =
        let same : instrument ≡ number = eqb-true instrument number e in
        let here : slice_get facts.instruments instrument ≡ Some own = ap (slice_get facts.instruments) same ∙ at in
        let owns : shown.own ≡ own = one_own shown.own own (slice_get facts.instruments instrument) shown.known here in
        let set_is : result_unwrap_or (encoded facts.contents instrument attrs) [] ≡ shown.set = ap (λ r. result_unwrap_or r []) shown.named in
        let known = encoded_set names streams facts run instrument own here attrs shown.set shown.named in
        let admits : is_admitted own (record { recorder = recorder; set = result_unwrap_or (encoded facts.contents instrument attrs) []; value = value }) ≡ true =
        ap (λ (s : List ℕ). is_admitted own (record { recorder = recorder; set = s; value = value })) set_is
        ∙ admits_set own recorder shown.set value known (ap (λ (f : Facts). in_bounds f value) (sym owns) ∙ shown.ranged) in
        let left : spent (accepted facts h number) recorder < slice_index own.budgets recorder + granted_of h number recorder =
        subst (λ (f : Facts). spent (accepted facts h number) recorder < slice_index f.budgets recorder + granted_of h number recorder) owns
        (subst (λ (i : ℕ). spent (accepted facts h i) recorder < slice_index shown.own.budgets recorder + granted_of h i recorder) same shown.left) in
        granted_more own (granted_of h number) (λ r. 0) (accepted facts h number ++ record { recorder = recorder; set = result_unwrap_or (encoded facts.contents instrument attrs) []; value = value } ∷ [])
        (one_more own (granted_of h number) (accepted facts h number) (record { recorder = recorder; set = result_unwrap_or (encoded facts.contents instrument attrs) []; value = value }) before admits left)
recorded_within names streams facts run start h number own at before (Record recorder instrument attrs value) (Collected b) legal =
    none_more own (granted_of h number) (λ r. grants_to number r (Record recorder instrument attrs value) (Collected b)) (accepted facts h number) before
recorded_within names streams facts run start h number own at before (Record recorder instrument attrs value) Done legal =
    none_more own (granted_of h number) (λ r. grants_to number r (Record recorder instrument attrs value) Done) (accepted facts h number) before
recorded_within names streams facts run start h number own at before (Record recorder instrument attrs value) Granted legal =
    none_more own (granted_of h number) (λ r. grants_to number r (Record recorder instrument attrs value) Granted) (accepted facts h number) before
recorded_within names streams facts run start h number own at before (Record recorder instrument attrs value) (Refused refusal) legal =
    none_more own (granted_of h number) (λ r. grants_to number r (Record recorder instrument attrs value) (Refused refusal)) (accepted facts h number) before
recorded_within names streams facts run start h number own at before (Collect reader instrument now) reply legal =
    none_more own (granted_of h number) (λ r. grants_to number r (Collect reader instrument now) reply) (accepted facts h number) before
recorded_within names streams facts run start h number own at before (Close instrument) reply legal =
    none_more own (granted_of h number) (λ r. grants_to number r (Close instrument) reply) (accepted facts h number) before
recorded_within names streams facts run start h number own at before (Grant to instrument amount) reply legal =
    none_more own (granted_of h number) (λ r. grants_to number r (Grant to instrument amount) reply) (accepted facts h number) before

-- the accepted recordings of a legal history stay within the budgets and grants
pub spent_within : EncodesAllowedSets → (streams : List Stream) (facts : RunFacts) (start : ℕ) (h : History) → IsSafeRun streams facts → IsLegal facts start h
    → (number : ℕ) (own : Facts) → slice_get facts.instruments number ≡ Some own → IsSpent own (granted_of h number) (accepted facts h number)
spent_within names streams facts start [] run legal number own at = record { admitted = refl; within = λ recorder. omega arith }
spent_within names streams facts start (a ∷ older) run legal number own at =
    recorded_within names streams facts run start older number own at (spent_within names streams facts start older run legal.0 number own at) a.event a.reply legal.1

-- ---- the grants of a legal history

-- one event more
granted_within : (facts : RunFacts) (start : ℕ) (h : History) (number : ℕ) (own : Facts) → slice_get facts.instruments number ≡ Some own → AreGrants own (granted_of h number) (handed_of h number)
    → (event : Event) (reply : Reply) → Legal facts start h event reply → AreGrants own (λ r. granted_of h number r + grants_to number r event reply) (handed_of h number + grants_of number event reply)
granted_within facts start h number own at before (Grant to instrument amount) Granted legal = by (instrument == number) refl
  where
    shown : IsGranted facts h to instrument amount
    shown =
        let answer = legal_granted (grant facts start h to instrument amount) legal in
        grant_shows facts start h to instrument amount answer.answer answer.is

    by : (b : Bool) → (instrument == number) ≡ b → AreGrants own (λ r. granted_of h number r + cond (b && (to == r)) amount 0) (handed_of h number + cond b amount 0)
    by false e = no_grant own (granted_of h number) (handed_of h number) before
    by true e =
        let same : instrument ≡ number = eqb-true instrument number e in
        let owns : shown.own ≡ own = one_own shown.own own (slice_get facts.instruments instrument) shown.known (ap (slice_get facts.instruments) same ∙ at) in
        one_grant own (granted_of h number) (handed_of h number) to amount before (subst (λ (f : Facts). to < length f.budgets) owns shown.by_recorder)
        (subst (λ (f : Facts). amount ≤ f.spare - handed_of h number) owns (subst (λ (i : ℕ). amount ≤ shown.own.spare - handed_of h i) same shown.left))
granted_within facts start h number own at before (Grant to instrument amount) Accepted legal = no_grant own (granted_of h number) (handed_of h number) before
granted_within facts start h number own at before (Grant to instrument amount) (Collected b) legal = no_grant own (granted_of h number) (handed_of h number) before
granted_within facts start h number own at before (Grant to instrument amount) Done legal = no_grant own (granted_of h number) (handed_of h number) before
granted_within facts start h number own at before (Grant to instrument amount) (Refused refusal) legal = no_grant own (granted_of h number) (handed_of h number) before
granted_within facts start h number own at before (Record recorder instrument attrs value) reply legal = no_grant own (granted_of h number) (handed_of h number) before
granted_within facts start h number own at before (Collect reader instrument now) reply legal = no_grant own (granted_of h number) (handed_of h number) before
granted_within facts start h number own at before (Close instrument) reply legal = no_grant own (granted_of h number) (handed_of h number) before

-- the grants of a legal history stay within the spare
pub grants_within : (facts : RunFacts) (start : ℕ) (h : History) → IsLegal facts start h → (number : ℕ) (own : Facts) → slice_get facts.instruments number ≡ Some own
    → AreGrants own (granted_of h number) (handed_of h number)
grants_within facts start [] legal number own at = record {
  grants = none own.budgets;
  long = none_long own.budgets;
  each = none_at own.budgets;
  together = none_sum own.budgets;
  within = omega arith;
}
grants_within facts start (a ∷ older) legal number own at =
    granted_within facts start older number own at (grants_within facts start older legal.0 number own at) a.event a.reply legal.1

-- The accepted recordings of a legal history stay within the budgets and the spare.
pub accepted_within : EncodesAllowedSets → (streams : List Stream) (facts : RunFacts) (start : ℕ) (h : History) → IsSafeRun streams facts → IsLegal facts start h
    → (number : ℕ) (own : Facts) → slice_get facts.instruments number ≡ Some own → KeepsBudgets own (told_of facts start h number)
accepted_within names streams facts start h run legal number own at =
    let journal = spent_within names streams facts start h run legal number own at in
    let given = grants_within facts start h legal number own at in
    record {
      admitted = journal_of own (granted_of h number) (handed_of h number) (accepted facts h number) journal given;
      within = journal.within;
      handed = given.within;
    }
