-- What an admitted recording is known to be.
use Rattle.std.proofs.Common.{◌≡◌, ◌<◌, ℕ, ℤ, true, ◌&&◌, List, Option, Some, None, Result, Ok, Err}
use Rattle.std.proofs.Common.{IfOk, OnOk, length, refl, sym, ap, subst, ◌∙◌, arith}
use Rattle.std.specs.Prelude.{◌==◌, nat_lt, slice_get}
use Rattle.std.proofs.lemmas.Bool.{and_from, and_parts, eqb-true, ltb-true}
use Rattle.std.proofs.lemmas.Option.{same_Some, slice_get_within}
use Rattle.metric_base.specs.StepLaws.{after_ok, ok_is, require_ok}
use Rattle.metric_base.specs.Steps.{require_some}
use Rattle.metric_combinations.specs.Combinations.{permits}
use Rattle.metric_contents.specs.Encoding.{Given, encode_of}
use Rattle.metric_contents.specs.declared.refusal.Refusal.{Refusal}
use Rattle.metric_contents.specs.declared.refusal.Refusal.TheVariants.{UnknownInstrument}
use Rattle.metric_contents.specs.declared.refusal.Refusal.TheVariants.{UnknownValue, Combination}
use Rattle.metric_contents.specs.declared.refusal.Refusal.TheVariants.{ValueRange}
use Rattle.metric_facts.specs.declared.facts.Facts.{Facts}
use Rattle.metric_facts.specs.Facts.{EncodesAllowedSets, in_bounds, is_allowed_set, is_full_set}
use Rattle.metric_plan.specs.Plans.{IsPlan, PlanValue}
use Rattle.metric_seat.specs.KeyRecordings.{declared_key}
use Rattle.metric_seat.specs.Recordings.{KnowsRecording}
use Rattle.metric_seat.specs.Recordings.{declared_set}
use Rattle.metric_seat.specs.Seats.{ProviderValue, RecorderValue, is_recorder_of, is_same_run}
use Rattle.metric_seat.specs.PlanFacts.{allowed_at}

-- what a declared recording is known to be
pub record IsDeclared (plan : PlanValue) (instrument : ℕ) (set : List ℕ) (value : ℤ) : Type 0 where
  pub own : Facts
  pub found : slice_get plan.facts.instruments instrument ≡ Some own
  pub allowed : is_allowed_set own set ≡ true
  pub ranged : in_bounds own value ≡ true

some_of : {A : Type 0} (o : Option A) (e : Refusal) (x : A) → require_some o e ≡ Ok x → o ≡ Some x
some_of None e x given = absurd cc
some_of (Some y) e x given = ap (λ z. Some z) (ok_is y x (require_some (Some y) e) refl given)

pub of_attributes : (plan : PlanValue) (instrument : ℕ) (attrs : List Given) (value : ℤ) (set : List ℕ)
    → IsPlan plan → EncodesAllowedSets
    → declared_set plan instrument attrs value ≡ Ok set → IsDeclared plan instrument set value
of_attributes plan instrument attrs value set kept names made =
    after_ok (require_some (slice_get plan.facts.instruments instrument) UnknownInstrument) _ set
    made (λ own given rest.
    after_ok (encode_of plan.facts.contents.instruments instrument attrs) _ set rest
    (λ named is last.
    let bounds = require_ok (in_bounds own value) ValueRange _ set last in
    let found : slice_get plan.facts.instruments instrument ≡ Some own =
    some_of (slice_get plan.facts.instruments instrument) UnknownInstrument own given in
    record {
      own = own;
      found = found;
      allowed = allowed_at plan instrument own attrs set kept names found (is ∙ bounds.1);
      ranged = bounds.0;
    }))

pub of_key : (plan : PlanValue) (instrument : ℕ) (set key : List ℕ) (value : ℤ)
    → declared_key plan instrument set value ≡ Ok key → IsDeclared plan instrument key value
of_key plan instrument set key value made =
    after_ok (require_some (slice_get plan.facts.instruments instrument) UnknownInstrument) _ key
    made (λ own given rest.
    let whole = require_ok (is_full_set own.keys set) UnknownValue _ key rest in
    let listed = require_ok (permits own.allowed set) Combination _ key whole.1 in
    let bounds = require_ok (in_bounds own value) ValueRange _ key listed.1 in
    record {
      own = own;
      found = some_of (slice_get plan.facts.instruments instrument) UnknownInstrument own given;
      allowed =
          subst (λ (s : List ℕ). is_allowed_set own s ≡ true) (ok_is set key (Ok set) refl bounds.1)
          (and_from (is_full_set own.keys set) (permits own.allowed set) whole.0 listed.0);
      ranged = bounds.0;
    })

-- the parts of a seat of a provider
record IsSeat (p : ProviderValue) (seat : RecorderValue) : Type 0 where
  pub known : seat.number < length p.plan.facts.contents.recorders
  pub long : length seat.told ≡ length p.plan.facts.instruments

seat_parts : (p : ProviderValue) (seat : RecorderValue) → is_recorder_of p seat ≡ true
    → IsSeat p seat
seat_parts p seat of =
    let recorders = length p.plan.facts.contents.recorders in
    let long = length seat.told == length p.plan.facts.instruments in
    let parts = and_parts (nat_lt seat.number recorders) long
    ((and_parts (is_same_run seat.run p.run) (nat_lt seat.number recorders && long) of).1) in
    record {
      known = ltb-true seat.number recorders parts.0;
      long = eqb-true (length seat.told) (length p.plan.facts.instruments) parts.1;
    }

pub knows : (p : ProviderValue) (seat : RecorderValue) (instrument : ℕ) (set : List ℕ) (value : ℤ)
    → is_recorder_of p seat ≡ true
    → IsDeclared p.plan instrument set value
    → KnowsRecording p.plan instrument seat.number set value
knows p seat instrument set value of from = record {
  known = slice_get_within p.plan.facts.instruments instrument from.own from.found;
  recorder = (seat_parts p seat of).known;
  allowed =
      λ own at. subst (λ (f : Facts). is_allowed_set f set ≡ true)
      (same_Some from.own own (sym from.found ∙ at)) from.allowed;
  ranged =
      λ own at. subst (λ (f : Facts). in_bounds f value ≡ true)
      (same_Some from.own own (sym from.found ∙ at)) from.ranged;
}

pub told_there : (p : ProviderValue) (seat : RecorderValue) (instrument : ℕ) (set : List ℕ)
    (value : ℤ) → is_recorder_of p seat ≡ true
    → IsDeclared p.plan instrument set value → instrument < length seat.told
told_there p seat instrument set value of from =
    omega (
      arith,
      (seat_parts p seat of).long,
      slice_get_within p.plan.facts.instruments instrument from.own from.found,
    )

-- of a recording with attributes
pub knows_of : (p : ProviderValue) (seat : RecorderValue) (instrument : ℕ) (attrs : List Given)
    (value : ℤ) (r : Result (List ℕ) Refusal) → IsPlan p.plan → EncodesAllowedSets
    → is_recorder_of p seat ≡ true → r ≡ declared_set p.plan instrument attrs value
    → IfOk r (λ set. KnowsRecording p.plan instrument seat.number set value)
knows_of p seat instrument attrs value (Err refusal) kept names of made = tt
knows_of p seat instrument attrs value (Ok set) kept names of made =
    knows p seat instrument set value of
    (of_attributes p.plan instrument attrs value set kept names (sym made))

pub long_of : (p : ProviderValue) (seat : RecorderValue) (instrument : ℕ) (attrs : List Given)
    (value : ℤ) (r : Result (List ℕ) Refusal) → IsPlan p.plan → EncodesAllowedSets
    → is_recorder_of p seat ≡ true → r ≡ declared_set p.plan instrument attrs value
    → OnOk r (instrument < length seat.told)
long_of p seat instrument attrs value (Err refusal) kept names of made = tt
long_of p seat instrument attrs value (Ok set) kept names of made =
    told_there p seat instrument set value of
    (of_attributes p.plan instrument attrs value set kept names (sym made))

-- of one with a set key
pub knows_key : (p : ProviderValue) (seat : RecorderValue) (instrument : ℕ) (set : List ℕ)
    (value : ℤ) (r : Result (List ℕ) Refusal) → is_recorder_of p seat ≡ true
    → r ≡ declared_key p.plan instrument set value
    → IfOk r (λ key. KnowsRecording p.plan instrument seat.number key value)
knows_key p seat instrument set value (Err refusal) of made = tt
knows_key p seat instrument set value (Ok key) of made =
    knows p seat instrument key value of (of_key p.plan instrument set key value (sym made))

pub long_key : (p : ProviderValue) (seat : RecorderValue) (instrument : ℕ) (set : List ℕ)
    (value : ℤ) (r : Result (List ℕ) Refusal) → is_recorder_of p seat ≡ true
    → r ≡ declared_key p.plan instrument set value → OnOk r (instrument < length seat.told)
long_key p seat instrument set value (Err refusal) of made = tt
long_key p seat instrument set value (Ok key) of made =
    told_there p seat instrument key value of (of_key p.plan instrument set key value (sym made))
