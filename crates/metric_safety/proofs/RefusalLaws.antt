-- No recording of a legal history of a safe run is refused for its sums.
use Rattle.std.proofs.Common.{◌≡◌, ◌≢◌, ℕ, ◌+◌, ◌-◌, ◌<◌, ℤ, Bool, true, false, not, List, [], ◌∷◌, ◌++◌, length, map, All, Option, Some, None, Result, Ok, Err, ◌⊎◌, inl, inr, refl, sym, ap, subst, ◌∙◌}
use Rattle.std.specs.Prelude.{slice_get, slice_index, nat_le, nat_lt}
use Rattle.std.specs.List.{list_all}
use Rattle.std.proofs.lemmas.Bool.{true≢false, ltb-true, lt-ltb, not_from_false}
use Rattle.std.proofs.lemmas.List.Elements.{All-nil, All-cons}
use Rattle.metric_base.specs.Steps.{◌>>=◌, require, require_some}
use Rattle.metric_combinations.specs.Combinations.{permits}
use Rattle.metric_contents.specs.Attributes.{given_by_owned}
use Rattle.metric_contents.specs.Encoding.{Given, allowed_set, encode_of, has_declared_value, has_repeated_key, is_complete, is_declared, set_key, set_of}
use Rattle.metric_contents.specs.declared.attributes.OwnedAttr.{OwnedAttr}
use Rattle.metric_contents.specs.declared.contents.Instrument.{Instrument}
use Rattle.metric_contents.specs.declared.contents.Key.{Key}
use Rattle.metric_contents.specs.declared.refusal.Refusal.{Refusal}
use Rattle.metric_contents.specs.declared.refusal.Refusal.TheVariants.{UnknownInstrument, UnknownRecorder, UnknownReader, DuplicateKey, UnknownKey, UnknownValue, MissingKey, Combination, ValueRange, Closed, Budget, NoSpare, SumRange, Memory}
use Rattle.metric_views.specs.declared.stream.Stream.{Stream}
use Rattle.metric_history.specs.declared.batch.Batch.{Batch}
use Rattle.metric_history.specs.declared.entry.Entry.{Entry}
use Rattle.metric_history.specs.declared.event.Event.{Event}
use Rattle.metric_history.specs.declared.event.Event.TheVariants.{Record, Collect, Close, Grant}
use Rattle.metric_history.specs.declared.event.Reply.{Reply}
use Rattle.metric_history.specs.declared.event.Reply.TheVariants.{Accepted, Collected, Done, Granted, Refused}
use Rattle.metric_facts.specs.declared.facts.Facts.{Facts}
use Rattle.metric_history.specs.Answers.{batch, collected, closing, granting, recorded, spent}
use Rattle.metric_history.specs.Encoded.{encoded}
use Rattle.metric_facts.specs.Facts.{EncodesAllowedSets, RunFacts, in_bounds}
use Rattle.metric_history.specs.History.{Answered, History, accepted, granted_of, handed_of, is_closed, mark_of, told_of}
use Rattle.metric_history.specs.Legal.{IsLegal, Legal, LegalRecord, LegalCollect, LegalClose, LegalGrant, recording, collection, close, grant}
use Rattle.metric_history.specs.Windows.{fits_all}
use Rattle.metric_safety.specs.SafeRuns.{IsSafeRun, IsWithinBudget, NoSumRefuses}
use Rattle.metric_safety.proofs.WindowLaws.{journal_fits}
use Rattle.metric_safety.proofs.HistoryLaws.{admits_set, encoded_set, grants_within, journal_of, known_own, one_more, spent_within}

-- a step that failed with another fault than its own did so later
require_other : {B E : Type 0} (b : Bool) (d : E) (f : Unit {0} → Result B E) (fault : E) → (require b d >>= f) ≡ Err fault → d ≢ fault → (b ≡ true) × (f tt ≡ Err fault)
require_other true d f fault e other = (refl, e)
require_other false d f fault e other = absurd (other cc)

-- the value of a step that did not fail, or its fault
after_fault : {A B E P : Type 0} (r : Result A E) (f : A → Result B E) (fault : E) → (r >>= f) ≡ Err fault → ((x : A) → r ≡ Ok x → f x ≡ Err fault → P) → (r ≡ Err fault → P) → P
after_fault (Ok x) f fault e later here = later x refl e
after_fault (Err d) f fault e later here = let same : d ≡ fault = cc in here (ap Err same)

require_some_other : {A : Type 0} (o : Option A) (d fault : Refusal) → require_some o d ≡ Err fault → d ≢ fault → ⊥
require_some_other None d fault e other = other cc
require_some_other (Some x) d fault e other = absurd cc

-- attributes are never refused for a sum
set_never : (keys : List Key) (attrs : List Given) → set_of keys attrs ≡ Err SumRange → ⊥
unfolding set_of
set_never keys attrs e =
    let new = require_other (not (has_repeated_key attrs)) DuplicateKey _ SumRange e (λ c. absurd cc) in
    let known = require_other (list_all (is_declared keys) attrs) UnknownKey _ SumRange new.1 (λ c. absurd cc) in
    let allowed = require_other (list_all (has_declared_value keys) attrs) UnknownValue _ SumRange known.1 (λ c. absurd cc) in
    let complete = require_other (list_all (is_complete attrs) keys) MissingKey _ SumRange allowed.1 (λ c. absurd cc) in
    let last : Ok (set_key keys attrs) ≡ Err SumRange = complete.1 in
    absurd cc

allowed_never : (instrument : Instrument) (attrs : List Given) → allowed_set instrument attrs ≡ Err SumRange → ⊥
unfolding allowed_set
allowed_never instrument attrs e =
    after_fault {P = ⊥} (set_of instrument.keys attrs) _ SumRange e
    (λ set named rest.
    let permitted = require_other (permits instrument.allowed set) Combination _ SumRange rest (λ c. absurd cc) in
    let last : Ok set ≡ Err SumRange = permitted.1 in
    absurd cc)
    (λ refused. set_never instrument.keys attrs refused)

encoded_never : (instruments : List Instrument) (number : ℕ) (attrs : List Given) → encode_of instruments number attrs ≡ Err SumRange → ⊥
unfolding encode_of
encoded_never instruments number attrs e =
    after_fault {P = ⊥} (require_some (slice_get instruments number) UnknownInstrument) (λ instrument. allowed_set instrument attrs) SumRange e
    (λ instrument found rest. allowed_never instrument attrs rest)
    (λ refused. require_some_other (slice_get instruments number) UnknownInstrument SumRange refused (λ c. absurd cc))

-- the next recording within the budget fits
next_fits : EncodesAllowedSets → (streams : List Stream) (facts : RunFacts) → IsSafeRun streams facts → (start : ℕ) (h : History) → IsLegal facts start h
    → (number : ℕ) (own : Facts) → slice_get facts.instruments number ≡ Some own → (recorder : ℕ) (attrs : List OwnedAttr) (set : List ℕ) (value : ℤ)
    → encoded facts.contents number attrs ≡ Ok set → in_bounds own value ≡ true
    → spent (accepted facts h number) recorder < slice_index own.budgets recorder + granted_of h number recorder
    → fits_all own (mark_of facts h number) (accepted facts h number) (record { recorder = recorder; set = set; value = value }) ≡ true
next_fits names streams facts run start h legal number own at recorder attrs set value named ranged left =
    let longer = one_more own (granted_of h number) (accepted facts h number) (record { recorder = recorder; set = set; value = value })
    (spent_within names streams facts start h run legal number own at) (admits_set own recorder set value (encoded_set names streams facts run number own at attrs set named) ranged) left in
    journal_fits own (accepted facts h number) (record { recorder = recorder; set = set; value = value }) (mark_of facts h number) (run.safe number own at)
    (journal_of own (granted_of h number) (handed_of h number) (accepted facts h number ++ record { recorder = recorder; set = set; value = value } ∷ []) longer (grants_within facts start h legal number own at))

recording_never : EncodesAllowedSets → (streams : List Stream) (facts : RunFacts) → IsSafeRun streams facts → (start : ℕ) (h : History) → IsLegal facts start h
    → (recorder number : ℕ) (attrs : List OwnedAttr) (value : ℤ) → recording facts start h recorder number attrs value ≡ Err SumRange → ⊥
recording_never names streams facts run start h legal recorder number attrs value e =
    after_fault {P = ⊥} (require_some (slice_get facts.instruments number) UnknownInstrument) (λ own. recorded own (told_of facts start h number) (encoded facts.contents number attrs) recorder value) SumRange e
    (λ own found rest.
    let by_recorder = require_other (nat_lt recorder (length own.budgets)) UnknownRecorder _ SumRange rest (λ c. absurd cc) in
    after_fault {P = ⊥} (encoded facts.contents number attrs) _ SumRange by_recorder.1
    (λ set named later.
    let ranged = require_other (in_bounds own value) ValueRange _ SumRange later (λ c. absurd cc) in
    let opened = require_other (not (is_closed h number)) Closed _ SumRange ranged.1 (λ c. absurd cc) in
    let budgeted = require_other (nat_lt (spent (accepted facts h number) recorder) (slice_index own.budgets recorder + granted_of h number recorder)) Budget _ SumRange opened.1 (λ c. absurd cc) in
    let fits = next_fits names streams facts run start h legal number own (known_own (slice_get facts.instruments number) own found) recorder attrs set value named ranged.0
    (ltb-true (spent (accepted facts h number) recorder) (slice_index own.budgets recorder + granted_of h number recorder) budgeted.0) in
    last (record { recorder = recorder; set = set; value = value }) (fits_all own (mark_of facts h number) (accepted facts h number) (record { recorder = recorder; set = set; value = value })) fits budgeted.1)
    (λ refused. encoded_never facts.contents.instruments number (map given_by_owned attrs) refused))
    (λ refused. require_some_other (slice_get facts.instruments number) UnknownInstrument SumRange refused (λ c. absurd cc))
  where
    last : (entry : Entry) (b : Bool) → b ≡ true → (require b SumRange >>= λ _. Ok entry) ≡ Err SumRange → ⊥
    last entry true fits e = absurd cc
    last entry false fits e = true≢false (sym fits)

-- a reply to an event of a legal history is never that refusal
reply_never : EncodesAllowedSets → (streams : List Stream) (facts : RunFacts) → IsSafeRun streams facts → (start : ℕ) (h : History) → IsLegal facts start h
    → (event : Event) (reply : Reply) → Legal facts start h event reply → reply ≡ Refused SumRange → ⊥
reply_never names streams facts run start h legal event reply own e = by event (subst (Legal facts start h event) e own)
  where
    collect_never : (reader number now : ℕ) → collection facts start h reader number now ≡ Err SumRange → ⊥
    collect_never reader number now e =
        after_fault {P = ⊥} (require_some (slice_get facts.instruments number) UnknownInstrument) (λ own. collected own start (told_of facts start h number) reader now) SumRange e
        (λ own found rest.
        let known = require_other (nat_lt reader (length own.delta)) UnknownReader _ SumRange rest (λ c. absurd cc) in
        let last : Ok (batch own start (told_of facts start h number) reader now) ≡ Err SumRange = known.1 in
        absurd cc)
        (λ refused. require_some_other (slice_get facts.instruments number) UnknownInstrument SumRange refused (λ c. absurd cc))

    close_never : (number : ℕ) → close facts start h number ≡ Err SumRange → ⊥
    close_never number e =
        after_fault {P = ⊥} (require_some (slice_get facts.instruments number) UnknownInstrument) (λ own. closing (told_of facts start h number)) SumRange e
        (λ own found rest. closed (is_closed h number) rest)
        (λ refused. require_some_other (slice_get facts.instruments number) UnknownInstrument SumRange refused (λ c. absurd cc))
      where
        closed : (b : Bool) → require (not b) Closed ≡ Err SumRange → ⊥
        closed true e = absurd cc
        closed false e = absurd cc

    grant_never : (to number amount : ℕ) → grant facts start h to number amount ≡ Err SumRange → ⊥
    grant_never to number amount e =
        after_fault {P = ⊥} (require_some (slice_get facts.instruments number) UnknownInstrument) (λ own. granting own (told_of facts start h number) to amount) SumRange e
        (λ own found rest.
        let known = require_other (nat_lt to (length own.budgets)) UnknownRecorder _ SumRange rest (λ c. absurd cc) in
        let opened = require_other (not (is_closed h number)) Closed _ SumRange known.1 (λ c. absurd cc) in
        spare (nat_le amount (own.spare - handed_of h number)) opened.1)
        (λ refused. require_some_other (slice_get facts.instruments number) UnknownInstrument SumRange refused (λ c. absurd cc))
      where
        spare : (b : Bool) → require b NoSpare ≡ Err SumRange → ⊥
        spare true e = absurd cc
        spare false e = absurd cc

    record_with : (r : Result Entry Refusal) → (r ≡ Err SumRange → ⊥) → LegalRecord r (Refused SumRange) → ⊥
    record_with (Ok entry) never given = absurd cc
    record_with (Err refusal) never given = never (ap Err (sym given))

    collect_with : (r : Result Batch Refusal) → (r ≡ Err SumRange → ⊥) → LegalCollect r (Refused SumRange) → ⊥
    collect_with (Ok b) never given = absurd cc
    collect_with (Err refusal) never given = never (ap Err (sym given))

    close_with : (r : Result (Unit {0}) Refusal) → (r ≡ Err SumRange → ⊥) → LegalClose r (Refused SumRange) → ⊥
    close_with (Ok done) never given = given
    close_with (Err refusal) never given = never (ap Err (sym given))

    grant_with : (r : Result (Unit {0}) Refusal) → (r ≡ Err SumRange → ⊥) → LegalGrant r (Refused SumRange) → ⊥
    grant_with (Ok done) never given = given
    grant_with (Err refusal) never given = never (ap Err (sym given))

    by : (event : Event) → Legal facts start h event (Refused SumRange) → ⊥
    by (Record recorder number attrs value) given =
        record_with (recording facts start h recorder number attrs value) (recording_never names streams facts run start h legal recorder number attrs value) given
    by (Collect reader number now) given = collect_with (collection facts start h reader number now) (collect_never reader number now) given
    by (Close number) given = close_with (close facts start h number) (close_never number) given
    by (Grant to number amount) given = grant_with (grant facts start h to number amount) (grant_never to number amount) given

all_never : EncodesAllowedSets → (streams : List Stream) (facts : RunFacts) → IsSafeRun streams facts → (start : ℕ) (h : History) → IsLegal facts start h
    → All (λ (a : Answered). a.reply ≢ Refused SumRange) h
all_never names streams facts run start [] legal = All-nil (λ (a : Answered). a.reply ≢ Refused SumRange)
all_never names streams facts run start (a ∷ older) legal =
    All-cons (λ (x : Answered). x.reply ≢ Refused SumRange) a older
    (reply_never names streams facts run start older legal.0 a.event a.reply legal.1) (all_never names streams facts run start older legal.0)

-- a declared recording within its budget has an entry
within_made : EncodesAllowedSets → (streams : List Stream) (facts : RunFacts) → IsSafeRun streams facts → (start : ℕ) (h : History) → IsLegal facts start h
    → (recorder number : ℕ) (attrs : List OwnedAttr) (value : ℤ) (w : IsWithinBudget facts h recorder number attrs value)
    → recording facts start h recorder number attrs value ≡ Ok (record { recorder = recorder; set = w.set; value = value })
within_made names streams facts run start h legal recorder number attrs value w =
    let fits = next_fits names streams facts run start h legal number w.own w.known recorder attrs w.set value w.named w.ranged w.budgeted in
    ap (λ (o : Option Facts). require_some o UnknownInstrument >>= λ own. recorded own (told_of facts start h number) (encoded facts.contents number attrs) recorder value) w.known
    ∙ passed (nat_lt recorder (length w.own.budgets)) UnknownRecorder _ (lt-ltb recorder (length w.own.budgets) w.by_recorder)
    ∙ ap (λ (r : Result (List ℕ) Refusal). r >>= λ set. rest set) w.named
    ∙ passed (in_bounds w.own value) ValueRange _ w.ranged
    ∙ passed (not (is_closed h number)) Closed _ (not_from_false (is_closed h number) w.is_open)
    ∙ passed (nat_lt (spent (accepted facts h number) recorder) (slice_index w.own.budgets recorder + granted_of h number recorder)) Budget _ (lt-ltb (spent (accepted facts h number) recorder) (slice_index w.own.budgets recorder + granted_of h number recorder) w.budgeted)
    ∙ passed (fits_all w.own (mark_of facts h number) (accepted facts h number) (record { recorder = recorder; set = w.set; value = value })) SumRange _ fits
  where
    passed : {B : Type 0} (b : Bool) (d : Refusal) (f : Unit {0} → Result B Refusal) → b ≡ true → (require b d >>= f) ≡ f tt
    passed true d f e = refl
    passed false d f e = absurd (true≢false (sym e))

    rest : List ℕ → Result Entry Refusal
    rest set =
        require (in_bounds w.own value) ValueRange >>= λ _.
        require (not (is_closed h number)) Closed >>= λ _.
        require (nat_lt (spent (accepted facts h number) recorder) (slice_index w.own.budgets recorder + granted_of h number recorder)) Budget >>= λ _.
        require (fits_all w.own (mark_of facts h number) (accepted facts h number) (record { recorder = recorder; set = set; value = value })) SumRange >>= λ _.
        Ok (record { recorder = recorder; set = set; value = value })

answers_of : (r : Result Entry Refusal) (entry : Entry) → r ≡ Ok entry → (reply : Reply) → LegalRecord r reply → (reply ≡ Accepted) ⊎ (reply ≡ Refused Memory)
answers_of (Ok x) entry e Accepted legal = inl refl
answers_of (Ok x) entry e (Refused refusal) legal = inr (ap Refused legal)
answers_of (Ok x) entry e (Collected b) legal = absurd legal
answers_of (Ok x) entry e Done legal = absurd legal
answers_of (Ok x) entry e Granted legal = absurd legal
answers_of (Err refusal) entry e reply legal = absurd cc

-- sums refuse nothing
pub no_sum_refuses : EncodesAllowedSets → (streams : List Stream) (facts : RunFacts) (start : ℕ) (h : History) → IsSafeRun streams facts → IsLegal facts start h → NoSumRefuses facts start h
no_sum_refuses names streams facts start h run legal = record {
  never = all_never names streams facts run start h legal;
  next = recording_never names streams facts run start h legal;
  accepts = λ recorder number attrs value reply w given.
      answers_of (recording facts start h recorder number attrs value) (record { recorder = recorder; set = w.set; value = value }) (within_made names streams facts run start h legal recorder number attrs value w) reply given;
}
