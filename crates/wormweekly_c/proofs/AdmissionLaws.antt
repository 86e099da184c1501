-- A recording with attributes is admitted as one with the set key that they name.
use Rattle.std.proofs.Common.{◌≡◌, ℕ, ℤ, Bool, List, Option, Some, None, Result, Ok, refl, sym, ap, subst, inl, ◌∙◌}
use Rattle.std.specs.Prelude.{IsSomeAnd, slice_get}
use Rattle.std.proofs.lemmas.Bool.{and_parts}
use Rattle.metric_base.specs.Steps.{◌>>=◌, require, require_some}
use Rattle.metric_combinations.specs.Combinations.{permits}
use Rattle.metric_contents.specs.Encoding.{Given, encode_of}
use Rattle.metric_contents.specs.declared.refusal.Refusal.{Refusal}
use Rattle.metric_contents.specs.declared.refusal.Refusal.TheVariants.{Combination, Stranger, UnknownInstrument, UnknownValue, ValueRange}
use Rattle.metric_facts.specs.declared.facts.Facts.{Facts}
use Rattle.metric_facts.specs.Facts.{EncodesAllowedSets, in_bounds, is_full_set}
use Rattle.metric_hosted.specs.declared.planned.HostedRecorder.{HostedRecorder}
use Rattle.metric_hosted.specs.Hosts.{HostedValue, number_of, run_of}
use Rattle.metric_plan.specs.Plans.{IsPlan, PlanValue}
use Rattle.metric_seat.specs.KeyRecordings.{declared_key, key_of}
use Rattle.metric_seat.specs.PlanFacts.{allowed_at}
use Rattle.metric_seat.specs.Recordings.{declared_set}
use Rattle.metric_seat.specs.Seats.{is_recorder_of}
use Rattle.wormweekly_c.specs.Codes.{IsCodeOf, IsCodeOfRead}
use Rattle.wormweekly_c.specs.Recordings.{Answers, AnswersGiven, AnswersKey, Records, RecordsGiven, RecordsKey, admission, admission_key}

-- a recording that a plan declares, with attributes or with the set key that they name
same_declared : (plan : PlanValue) (number : ℕ) (attrs : List Given) (set : List ℕ) (value : ℤ) → IsPlan plan → EncodesAllowedSets
    → encode_of plan.facts.contents.instruments number attrs ≡ Ok set → declared_set plan number attrs value ≡ declared_key plan number set value
same_declared plan number attrs set value kept names named = by (slice_get plan.facts.instruments number) refl
  where
    by : (o : Option Facts) → slice_get plan.facts.instruments number ≡ o
        → (require_some o UnknownInstrument >>= λ own. encode_of plan.facts.contents.instruments number attrs >>= λ s. require (in_bounds own value) ValueRange >>= λ _. Ok s)
        ≡ (require_some o UnknownInstrument >>= λ own. key_of own set value)
    by None is = refl
    by (Some own) is =
        let (full, listed) = and_parts (is_full_set own.keys set) (permits own.allowed set) (allowed_at plan number own attrs set kept names is named) in
        ap (λ (r : Result (List ℕ) Refusal). r >>= λ s. require (in_bounds own value) ValueRange >>= λ _. Ok s) named
        ∙ sym (ap (λ (b : Bool). require b UnknownValue >>= λ _. require (permits own.allowed set) Combination >>= λ _. require (in_bounds own value) ValueRange >>= λ _. Ok set) full
        ∙ ap (λ (b : Bool). require b Combination >>= λ _. require (in_bounds own value) ValueRange >>= λ _. Ok set) listed)

-- the set key that attributes name for the instrument of this number of a plan
abbrev pub IsNamed : PlanValue → ℕ → List ℕ → List Given → Type 0
IsNamed plan number set attrs = encode_of plan.facts.contents.instruments number attrs ≡ Ok set

-- The plan and the number are those of the recorder and the instrument.
pub record AreOwn (plan : PlanValue) (number : ℕ) (h : HostedValue) (own : HostedRecorder) : Type 0 where
  pub plan_same : plan ≡ own.plan
  pub number_same : number ≡ number_of h
  pub kept : IsPlan plan
  pub names : EncodesAllowedSets

same_admission : (plan : PlanValue) (number : ℕ) (h : HostedValue) (own : HostedRecorder) (attrs : List Given) (set : List ℕ) (value : ℤ) → AreOwn plan number h own
    → IsNamed plan number set attrs → admission_key h own set value ≡ admission h own attrs value
same_admission plan number h own attrs set value are named =
    let is : encode_of own.plan.facts.contents.instruments (number_of h) attrs ≡ Ok set =
    ap (λ (p : PlanValue). encode_of p.facts.contents.instruments (number_of h) attrs) (sym are.plan_same)
    ∙ ap (λ (n : ℕ). encode_of plan.facts.contents.instruments n attrs) (sym are.number_same) ∙ named in
    sym (ap (λ (r : Result (List ℕ) Refusal). require (is_recorder_of (run_of own.plan h) own.seat) Stranger >>= λ _. r)
    (same_declared own.plan (number_of h) attrs set value (subst IsPlan are.plan_same are.kept) are.names is))

-- such a recording is answered as one with its attributes
pub answered_as_given : (plan : PlanValue) (number : ℕ) (h : HostedValue) (own : HostedRecorder) (count : ℕ) (read : Option (List Given)) (set : List ℕ) (value : ℤ) (code : ℕ)
    → AreOwn plan number h own → IsSomeAnd read (IsNamed plan number set) → IsCodeOf (AnswersKey set value h own) code
    → IsCodeOfRead count read (λ attrs. AnswersGiven attrs value h own) code
answered_as_given plan number h own count None set value code are found answer = absurd found
answered_as_given plan number h own count (Some attrs) set value code are found answer =
    inl (subst (λ (allowed : Result (List ℕ) Refusal). IsCodeOf (Answers allowed h own value) code) (same_admission plan number h own attrs set value are found) answer)

-- and is made as one with them
pub recorded_as_given : (plan : PlanValue) (number : ℕ) (h new : HostedValue) (own after : HostedRecorder) (read : Option (List Given)) (set : List ℕ) (value : ℤ) → AreOwn plan number h own
    → IsSomeAnd read (IsNamed plan number set) → RecordsKey set value h new own after → IsSomeAnd read (λ attrs. RecordsGiven attrs value h new own after)
recorded_as_given plan number h new own after None set value are found made = absurd found
recorded_as_given plan number h new own after (Some attrs) set value are found made =
    subst (λ (allowed : Result (List ℕ) Refusal). Records allowed value h new own after) (same_admission plan number h own attrs set value are found) made
