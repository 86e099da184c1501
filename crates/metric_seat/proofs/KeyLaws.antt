-- Recordings of set keys, one after the other.
use Rattle.std.proofs.Common.{◌≡◌, ◌<◌, ◌≤◌, ℕ, zero, suc, ◌+◌, ℤ, Bool, true, false, ◌&&◌, List, [], ◌∷◌, Option, Some, None, Result, Ok, Err, All, get_or, length, pos, take, refl, sym, ap, subst, ◌∙◌, arith}
use Rattle.std.specs.Prelude.{IfOk, IfSome, slice_get, slice_set, ◌==◌, nat_lt}
use Rattle.std.specs.Option.{option_map_or}
use Rattle.std.proofs.lemmas.Bool.{and_parts}
use Rattle.std.proofs.lemmas.List.{get_or-set_same, get_or-take, get_or_read, length-set, length-take-le, set-get_or, set-set, take-take, take_all}
use Rattle.std.proofs.lemmas.List.Elements.{All-more, All-take}
use Rattle.std.proofs.lemmas.Option.{get_or_from_slice_get, same_Some, slice_get-get_or, slice_get_past, slice_get_within}
use Rattle.metric_base.specs.StepLaws.{ok_is, require_ok}
use Rattle.metric_base.specs.Steps.{◌>>=◌, require, require_some}
use Rattle.metric_combinations.specs.Combinations.{permits}
use Rattle.metric_contents.specs.Encoding.{Given}
use Rattle.metric_contents.specs.declared.refusal.Refusal.{Refusal}
use Rattle.metric_contents.specs.declared.refusal.Refusal.TheVariants.{Stranger, UnknownInstrument, UnknownValue, Combination, ValueRange}
use Rattle.metric_facts.specs.declared.facts.Facts.{Facts}
use Rattle.metric_facts.specs.Facts.{EncodesAllowedSets, in_bounds, is_allowed_set, is_full_set}
use Rattle.metric_plan.specs.Plans.{IsPlan, PlanValue}
use Rattle.metric_seat.proofs.AdmitLaws.{IsDeclared, knows, of_attributes, of_key, told_there}
use Rattle.metric_seat.specs.declared.fault.SetsFault.{SetsFault}
use Rattle.metric_seat.specs.declared.keys.Measurement.{Measurement}
use Rattle.metric_seat.specs.KeyRecordings.{AnswersKey, AreAccepted, AreAdmitted, IsAdmitted, IsRecordable, IsRefusedAfter, IsRefusedUnder, IsUnadmittedAfter, KnowsEach, admitted_key, declared_key, key_of, measurement_of, noted_of_all, told_each, told_of, told_of_all}
use Rattle.metric_seat.specs.Handing.{HandsOn, Records}
use Rattle.metric_seat.specs.Recordings.{AnswersSeat, IsToldOf, RefusesRecording, declared_set, told_at, with_recording, with_slip, with_slips}
use Rattle.metric_seat.specs.declared.run_id.RunId.{RunId}
use Rattle.metric_seat.specs.Seats.{ProviderValue, RecorderValue, is_recorder_of, nothing_told, is_same_run}
use Rattle.metric_slot.specs.declared.told.Told.{Told}
use Rattle.metric_slot.specs.Tellings.{told_more}

-- ---- what a recorder was told

pub told_seat : (plan : PlanValue) (own : Facts) (i : ℕ) (all : List Measurement) (seat : RecorderValue) → slice_get plan.facts.instruments i ≡ Some own → i < length seat.told
    → told_of_all plan seat i all ≡ record seat { told = slice_set seat.told i (told_each (told_at seat i) own.lo all) }
told_seat plan own i [] seat found long = ap (λ (told : List Told). record seat { told = told }) (sym (set-get_or seat.told i nothing_told))
told_seat plan own i (one ∷ all) seat found long =
    let next : RecorderValue = with_recording seat i own one.value in
    let is : told_of plan seat i one.value ≡ next = ap (λ (o : Option Facts). option_map_or (λ (f : Facts). with_recording seat i f one.value) o seat) found in
    let here : told_at next i ≡ told_more (told_at seat i) own.lo one.value = get_or-set_same seat.told i (told_more (told_at seat i) own.lo one.value) nothing_told long in
    ap (λ (s : RecorderValue). told_of_all plan s i all) is
    ∙ told_seat plan own i all next found (omega (arith, length-set seat.told i (told_more (told_at seat i) own.lo one.value), long))
    ∙ ap (λ (t : Told). record seat { told = slice_set next.told i (told_each t own.lo all) }) here
    ∙ ap (λ (told : List Told). record seat { told = told })
    (set-set seat.told i (told_more (told_at seat i) own.lo one.value) (told_each (told_more (told_at seat i) own.lo one.value) own.lo all))

-- ---- telling does not make a seat another one

record IsSameSeat (later first : RecorderValue) : Type 0 where
  pub run : later.run ≡ first.run
  pub number : later.number ≡ first.number
  pub long : length later.told ≡ length first.told

told_same : (o : Option Facts) (seat : RecorderValue) (i : ℕ) (value : ℤ) → IsSameSeat (option_map_or (λ (own : Facts). with_recording seat i own value) o seat) seat
told_same None seat i value = record { run = refl; number = refl; long = refl }
told_same (Some own) seat i value = record { run = refl; number = refl; long = length-set seat.told i (told_more (told_at seat i) own.lo value) }

all_same : (plan : PlanValue) (seat : RecorderValue) (i : ℕ) (all : List Measurement) → IsSameSeat (told_of_all plan seat i all) seat
all_same plan seat i [] = record { run = refl; number = refl; long = refl }
all_same plan seat i (one ∷ all) =
    let first = told_same (slice_get plan.facts.instruments i) seat i one.value in
    let rest = all_same plan (told_of plan seat i one.value) i all in
    record { run = rest.run ∙ first.run; number = rest.number ∙ first.number; long = rest.long ∙ first.long }

own_same : (p : ProviderValue) (later first : RecorderValue) → IsSameSeat later first → is_recorder_of p later ≡ is_recorder_of p first
own_same p later first same =
    let recorders = length p.plan.facts.contents.recorders in
    let instruments = length p.plan.facts.instruments in
    ap (λ (r : RunId). is_same_run r p.run && (nat_lt later.number recorders && (length later.told == instruments))) same.run
    ∙ ap (λ (n : ℕ). is_same_run first.run p.run && (nat_lt n recorders && (length later.told == instruments))) same.number
    ∙ ap (λ (n : ℕ). is_same_run first.run p.run && (nat_lt first.number recorders && (n == instruments))) same.long

admitted_same : (p : ProviderValue) (later first : RecorderValue) (i : ℕ) (set : List ℕ) (value : ℤ) → IsSameSeat later first → admitted_key p later i set value ≡ admitted_key p first i set value
admitted_same p later first i set value same =
    ap (λ (b : Bool). require b Stranger >>= λ _. declared_key p.plan i set value) (own_same p later first same)

-- ---- before the lock

key_is : (own : Facts) (set key : List ℕ) (value : ℤ) → key_of own set value ≡ Ok key → set ≡ key
key_is own set key value made =
    let listed = require_ok (permits own.allowed set) Combination _ key ((require_ok (is_full_set own.keys set) UnknownValue _ key made).1) in
    ok_is set key (Ok set) refl ((require_ok (in_bounds own value) ValueRange _ key listed.1).1)

-- a seat of the run may make of an instrument's recordings those that its facts declare
admitted_by : (p : ProviderValue) (seat : RecorderValue) (i : ℕ) (own : Facts) (set : List ℕ) (value : ℤ) → is_recorder_of p seat ≡ true
    → slice_get p.plan.facts.instruments i ≡ Some own → admitted_key p seat i set value ≡ key_of own set value
admitted_by p seat i own set value mine found =
    ap (λ (b : Bool). require b Stranger >>= λ _. declared_key p.plan i set value) mine
    ∙ ap (λ (o : Option Facts). require_some o UnknownInstrument >>= λ (f : Facts). key_of f set value) found

pub admitted_more : (p : ProviderValue) (seat : RecorderValue) (i : ℕ) (own : Facts) (n : ℕ) (all : List Measurement) (d : Measurement) (key : List ℕ)
    → is_recorder_of p seat ≡ true → slice_get p.plan.facts.instruments i ≡ Some own → n < length all
    → key_of own (get_or all n d).set (get_or all n d).value ≡ Ok key → AreAdmitted p seat i (take n all) → AreAdmitted p seat i (take (n + 1) all)
admitted_more p seat i own n all d key mine found below made before =
    let one : Measurement = get_or all n d in
    All-more (IsAdmitted p seat i) all n d below before
    (admitted_by p seat i own one.set one.value mine found ∙ made ∙ ap (λ (k : List ℕ). Ok k) (sym (key_is own one.set key one.value made)))

pub admitted_end : (p : ProviderValue) (seat : RecorderValue) (i n : ℕ) (all : List Measurement) → length all ≤ n → AreAdmitted p seat i (take n all) → AreAdmitted p seat i all
admitted_end p seat i n all end far = subst (λ (some : List Measurement). AreAdmitted p seat i some) (take_all n all end) far

pub unadmitted : (p : ProviderValue) (seat : RecorderValue) (i : ℕ) (own : Facts) (n : ℕ) (all : List Measurement) (d : Measurement) (refusal : Refusal)
    → is_recorder_of p seat ≡ true → slice_get p.plan.facts.instruments i ≡ Some own → n < length all
    → key_of own (get_or all n d).set (get_or all n d).value ≡ Err refusal → AreAdmitted p seat i (take n all)
    → IsUnadmittedAfter p seat i all (record { place = n; refusal = refusal })
unadmitted p seat i own n all d refusal mine found below refused before = record {
  before = before;
  one = get_or all n d;
  found = slice_get-get_or all n d below;
  refused = admitted_by p seat i own (get_or all n d).set (get_or all n d).value mine found ∙ refused;
}

no_measurement : Measurement
no_measurement = record { set = []; value = pos 0 }

-- the first is refused where no recording on the instrument is the seat's to make
first_unadmitted : (p : ProviderValue) (seat : RecorderValue) (i : ℕ) (all : List Measurement) (refusal : Refusal) → 0 < length all
    → ((one : Measurement) → admitted_key p seat i one.set one.value ≡ Err refusal) → IsUnadmittedAfter p seat i all (record { place = 0; refusal = refusal })
first_unadmitted p seat i all refusal some each = record {
  before = λ k d below. absurd (omega arith);
  one = get_or all 0 no_measurement;
  found = slice_get-get_or all 0 no_measurement some;
  refused = each (get_or all 0 no_measurement);
}

pub unadmitted_stranger : (p : ProviderValue) (seat : RecorderValue) (i : ℕ) (all : List Measurement) → 0 < length all → is_recorder_of p seat ≡ false
    → IsUnadmittedAfter p seat i all (record { place = 0; refusal = Stranger })
unadmitted_stranger p seat i all some other =
    first_unadmitted p seat i all Stranger some (λ one. ap (λ (b : Bool). require b Stranger >>= λ _. declared_key p.plan i one.set one.value) other)

pub unadmitted_unknown : (p : ProviderValue) (seat : RecorderValue) (i : ℕ) (all : List Measurement) → 0 < length all → is_recorder_of p seat ≡ true
    → length p.plan.facts.instruments ≤ i → IsUnadmittedAfter p seat i all (record { place = 0; refusal = UnknownInstrument })
unadmitted_unknown p seat i all some mine past =
    first_unadmitted p seat i all UnknownInstrument some (λ one.
    ap (λ (b : Bool). require b Stranger >>= λ _. declared_key p.plan i one.set one.value) mine
    ∙ ap (λ (o : Option Facts). require_some o UnknownInstrument >>= λ (f : Facts). key_of f one.set one.value) (slice_get_past p.plan.facts.instruments i past))

-- none is refused of an empty list
pub none_unadmitted : (p : ProviderValue) (seat : RecorderValue) (i : ℕ) (all : List Measurement) → length all ≡ 0 → AreAdmitted p seat i all
none_unadmitted p seat i all none k d below = absurd (omega (arith, none))

-- ---- answers

admitted_at : (p : ProviderValue) (seat : RecorderValue) (i : ℕ) (all : List Measurement) (place : ℕ) (one : Measurement) → AreAdmitted p seat i all → slice_get all place ≡ Some one
    → IsAdmitted p seat i one
admitted_at p seat i all place one admitted found =
    subst (IsAdmitted p seat i) (get_or_from_slice_get all place one one found) (admitted place one (slice_get_within all place one found))

pub all_accepted : (spares : Facts → Type 0) (p : ProviderValue) (seat : RecorderValue) (i : ℕ) (all : List Measurement) → AreAdmitted p seat i all → AreAccepted spares p seat i all
all_accepted spares p seat i all admitted place one found =
    let later : RecorderValue = told_of_all p.plan seat i (take place all) in
    subst (λ (r : Result (List ℕ) Refusal). AnswersSeat spares r p.plan later i (Ok tt))
    (sym (admitted_same p later seat i one.set one.value (all_same p.plan seat i (take place all)) ∙ admitted_at p seat i all place one admitted found)) tt

pub refused_before : (spares : Facts → Type 0) (p : ProviderValue) (seat : RecorderValue) (i : ℕ) (all : List Measurement) (fault : SetsFault) → IsUnadmittedAfter p seat i all fault
    → IsRefusedAfter spares p seat i all fault
refused_before spares p seat i all fault of =
    let later : RecorderValue = told_of_all p.plan seat i (take fault.place all) in
    record {
      before = all_accepted spares p seat i (take fault.place all) of.before;
      one = of.one;
      found = of.found;
      answer = subst (λ (r : Result (List ℕ) Refusal). AnswersSeat spares r p.plan later i (Err fault.refusal))
          (sym (admitted_same p later seat i of.one.set of.one.value (all_same p.plan seat i (take fault.place all)) ∙ of.refused)) refl;
    }

-- ---- the first so many of a list

pub unadmitted_there : (p : ProviderValue) (seat : RecorderValue) (i : ℕ) (all : List Measurement) (fault : SetsFault) → IsUnadmittedAfter p seat i all fault → fault.place < length all
unadmitted_there p seat i all fault of = slice_get_within all fault.place of.one of.found

refused_below : (spares : Facts → Type 0) (p : ProviderValue) (seat : RecorderValue) (i n : ℕ) (all : List Measurement) (fault : SetsFault) → n ≤ length all
    → IsRefusedAfter spares p seat i (take n all) fault → fault.place < n
refused_below spares p seat i n all fault le of = omega (arith, slice_get_within (take n all) fault.place of.one of.found, length-take-le n all le)

pub same_before : (spares : Facts → Type 0) (p : ProviderValue) (seat : RecorderValue) (i n : ℕ) (all : List Measurement) (fault : SetsFault) → n ≤ length all
    → IsRefusedAfter spares p seat i (take n all) fault → take fault.place (take n all) ≡ take fault.place all
same_before spares p seat i n all fault le of =
    let below : fault.place < n = refused_below spares p seat i n all fault le of in
    take-take fault.place n all (omega (arith, below))

-- what is refused of them is refused of the list
pub refused_within : (spares : Facts → Type 0) (p : ProviderValue) (seat : RecorderValue) (i n : ℕ) (all : List Measurement) (fault : SetsFault) → n ≤ length all
    → IsRefusedAfter spares p seat i (take n all) fault → IsRefusedAfter spares p seat i all fault
refused_within spares p seat i n all fault le of =
    let below : fault.place < n = refused_below spares p seat i n all fault le of in
    let same : take fault.place (take n all) ≡ take fault.place all = same_before spares p seat i n all fault le of in
    let here : get_or all fault.place of.one ≡ of.one =
    sym (get_or-take n all fault.place of.one below) ∙ get_or_from_slice_get (take n all) fault.place of.one of.one of.found in
    record {
      before = subst (λ (made : List Measurement). AreAccepted spares p seat i made) same of.before;
      one = of.one;
      found = slice_get-get_or all fault.place of.one (omega (arith, below, le)) ∙ ap (λ (x : Measurement). Some x) here;
      answer = subst (λ (made : List Measurement). AnswersKey spares p (told_of_all p.plan seat i made) i of.one (Err fault.refusal)) same of.answer;
    }

pub knows_each : (p : ProviderValue) (seat : RecorderValue) (i : ℕ) (all : List Measurement) → AreAdmitted p seat i all → KnowsEach p.plan i seat.number all
knows_each p seat i all admitted k d below =
    let one : Measurement = get_or all k d in
    let mine = require_ok (is_recorder_of p seat) Stranger _ one.set (admitted k d below) in
    knows p seat i one.set one.value mine.0 (of_key p.plan i one.set one.set one.value mine.1)

pub told_at_each : (p : ProviderValue) (seat : RecorderValue) (i : ℕ) (all : List Measurement) → AreAdmitted p seat i all → 0 < length all → i < length seat.told
told_at_each p seat i all admitted some =
    let one : Measurement = get_or all 0 no_measurement in
    let mine = require_ok (is_recorder_of p seat) Stranger _ one.set (admitted 0 no_measurement some) in
    told_there p seat i one.set one.value mine.0 (of_key p.plan i one.set one.set one.value mine.1)

-- the plan has the instrument and the recorder
pub known_at_each : (p : ProviderValue) (seat : RecorderValue) (i : ℕ) (all : List Measurement) → AreAdmitted p seat i all → 0 < length all → i < length p.plan.facts.instruments
known_at_each p seat i all admitted some = (knows_each p seat i all admitted 0 no_measurement some).known

pub recorder_at_each : (p : ProviderValue) (seat : RecorderValue) (i : ℕ) (all : List Measurement) → AreAdmitted p seat i all → 0 < length all
    → seat.number < length p.plan.facts.contents.recorders
recorder_at_each p seat i all admitted some = (knows_each p seat i all admitted 0 no_measurement some).recorder

-- what the facts of the instrument say of each
pub recordable : (plan : PlanValue) (i by : ℕ) (own : Facts) (all : List Measurement) → slice_get plan.facts.instruments i ≡ Some own → KnowsEach plan i by all → All (IsRecordable own) all
recordable plan i by own all found known k d below =
    let of = known k d below in
    record { allowed = of.allowed own found; ranged = of.ranged own found }

told_by : (spares : Facts → Type 0) (own : Facts) (later : RecorderValue) (i : ℕ) (refusal : Refusal) (o : Option Facts) → o ≡ Some own
    → RefusesRecording spares own later.number (told_at later i) refusal → IfSome o (λ (f : Facts). RefusesRecording spares f later.number (told_at later i) refusal)
told_by spares own later i refusal None is why = absurd cc
told_by spares own later i refusal (Some f) is why =
    subst (λ (g : Facts). RefusesRecording spares g later.number (told_at later i) refusal) (sym (same_Some f own is)) why

pub refused_under : (spares : Facts → Type 0) (p : ProviderValue) (seat : RecorderValue) (own : Facts) (i : ℕ) (all : List Measurement) (last : Told) (fault : SetsFault)
    → AreAdmitted p seat i all → slice_get p.plan.facts.instruments i ≡ Some own → i < length seat.told
    → IsRefusedUnder spares own seat.number (told_at seat i) last all fault → IsRefusedAfter spares p seat i all fault
refused_under spares p seat own i all last fault admitted found long of =
    let one : Measurement = get_or all fault.place no_measurement in
    let made = take fault.place all in
    let later : RecorderValue = told_of_all p.plan seat i made in
    let is = told_seat p.plan own i made seat found long in
    let here : told_at later i ≡ last =
    ap (λ (s : RecorderValue). told_at s i) is
    ∙ get_or-set_same seat.told i (told_each (told_at seat i) own.lo made) nothing_told long
    ∙ sym of.told in
    let why : RefusesRecording spares own later.number (told_at later i) fault.refusal =
    subst (λ (n : ℕ). RefusesRecording spares own n (told_at later i) fault.refusal) (sym (ap (λ (s : RecorderValue). s.number) is))
    (subst (λ (t : Told). RefusesRecording spares own seat.number t fault.refusal) (sym here) of.why) in
    record {
      before = all_accepted spares p seat i made (All-take (IsAdmitted p seat i) fault.place all admitted);
      one = one;
      found = slice_get-get_or all fault.place no_measurement of.within;
      answer = subst (λ (r : Result (List ℕ) Refusal). AnswersSeat spares r p.plan later i (Err fault.refusal))
          (sym (admitted_same p later seat i one.set one.value (all_same p.plan seat i made) ∙ admitted fault.place no_measurement of.within))
          (told_by spares own later i fault.refusal (slice_get p.plan.facts.instruments i) found why);
    }

-- ---- what the lock's call says of the seat

declared_first : (p : ProviderValue) (seat : RecorderValue) (i : ℕ) (all : List Measurement) → AreAdmitted p seat i all → 0 < length all
    → IsDeclared p.plan i (get_or all 0 no_measurement).set (get_or all 0 no_measurement).value
declared_first p seat i all admitted some =
    let one : Measurement = get_or all 0 no_measurement in
    of_key p.plan i one.set one.set one.value ((require_ok (is_recorder_of p seat) Stranger _ one.set (admitted 0 no_measurement some)).1)

lent_is : (inside seat : RecorderValue) (i : ℕ) (old : Told) → inside ≡ seat → i < length seat.told → old ≡ get_or inside.told i old → old ≡ told_at seat i
lent_is inside seat i old is long lent =
    get_or_read seat.told i old long (lent ∙ ap (λ (s : RecorderValue). get_or s.told i old) is) nothing_told

-- A seat lends what it was told of the instrument. What becomes of it then stands in its place.
pub refused_in : (spares : Facts → Type 0) (p : ProviderValue) (inside seat : RecorderValue) (i : ℕ) (all : List Measurement) (old last : Told) (fault : SetsFault)
    → inside ≡ seat → AreAdmitted p seat i all → 0 < length all → old ≡ get_or inside.told i old
    → IfSome (slice_get p.plan.facts.instruments i) (λ (own : Facts). IsRefusedUnder spares own inside.number old last all fault) → IsRefusedAfter spares p seat i all fault
refused_in spares p inside seat i all old last fault is admitted some lent under =
    let of = declared_first p seat i all admitted some in
    let long : i < length seat.told = told_at_each p seat i all admitted some in
    let same : old ≡ told_at seat i = lent_is inside seat i old is long lent in
    let here : IsRefusedUnder spares of.own inside.number old last all fault =
    subst (λ (o : Option Facts). IfSome o (λ (own : Facts). IsRefusedUnder spares own inside.number old last all fault)) of.found under in
    refused_under spares p seat of.own i all last fault admitted of.found long
    (subst (λ (t : Told). IsRefusedUnder spares of.own seat.number t last all fault) same
    (subst (λ (n : ℕ). IsRefusedUnder spares of.own n old last all fault) (ap (λ (s : RecorderValue). s.number) is) here))

told_under : (plan : PlanValue) (own : Facts) (i : ℕ) (all : List Measurement) (seat : RecorderValue) (last : Told) → slice_get plan.facts.instruments i ≡ Some own → i < length seat.told
    → last ≡ told_each (told_at seat i) own.lo all → record seat { told = slice_set seat.told i last } ≡ told_of_all plan seat i all
told_under plan own i all seat last found long is =
    ap (λ (t : Told). record seat { told = slice_set seat.told i t }) is ∙ sym (told_seat plan own i all seat found long)

pub told_in : (p : ProviderValue) (inside seat : RecorderValue) (i : ℕ) (all : List Measurement) (old last : Told)
    → inside ≡ seat → AreAdmitted p seat i all → 0 < length all → old ≡ get_or inside.told i old
    → IfSome (slice_get p.plan.facts.instruments i) (λ (own : Facts). last ≡ told_each old own.lo all)
    → record inside { told = slice_set inside.told i last } ≡ told_of_all p.plan seat i all
told_in p inside seat i all old last is admitted some lent under =
    let of = declared_first p seat i all admitted some in
    let long : i < length seat.told = told_at_each p seat i all admitted some in
    let here : last ≡ told_each old of.own.lo all = subst (λ (o : Option Facts). IfSome o (λ (own : Facts). last ≡ told_each old own.lo all)) of.found under in
    ap (λ (s : RecorderValue). record s { told = slice_set s.told i last }) is
    ∙ told_under p.plan of.own i all seat last of.found long (here ∙ ap (λ (t : Told). told_each t of.own.lo all) (lent_is inside seat i old is long lent))

pub told_before_in : (spares : Facts → Type 0) (p : ProviderValue) (inside seat : RecorderValue) (i : ℕ) (all : List Measurement) (old last : Told) (fault : SetsFault)
    → inside ≡ seat → AreAdmitted p seat i all → 0 < length all → old ≡ get_or inside.told i old
    → IfSome (slice_get p.plan.facts.instruments i) (λ (own : Facts). IsRefusedUnder spares own inside.number old last all fault)
    → record inside { told = slice_set inside.told i last } ≡ told_of_all p.plan seat i (take fault.place all)
told_before_in spares p inside seat i all old last fault is admitted some lent under =
    let of = declared_first p seat i all admitted some in
    let long : i < length seat.told = told_at_each p seat i all admitted some in
    let here : IsRefusedUnder spares of.own inside.number old last all fault =
    subst (λ (o : Option Facts). IfSome o (λ (own : Facts). IsRefusedUnder spares own inside.number old last all fault)) of.found under in
    ap (λ (s : RecorderValue). record s { told = slice_set s.told i last }) is
    ∙ told_under p.plan of.own i (take fault.place all) seat last of.found long
    (here.told ∙ ap (λ (t : Told). told_each t of.own.lo (take fault.place all)) (lent_is inside seat i old is long lent))

-- what is said of the facts that a plan has of an instrument
pub of_known : (plan : PlanValue) (i : ℕ) (own : Facts) (P : Facts → Type 0) → slice_get plan.facts.instruments i ≡ Some own → P own → IfSome (slice_get plan.facts.instruments i) P
of_known plan i own P found holds = subst (λ (o : Option Facts). IfSome o P) (sym found) holds

-- What is made of recordings is what is handed on for the seat.
pub handed_in : {H : Type 0} (records : Records H) (plan : PlanValue) (inside seat : RecorderValue) (own : Facts) (i : ℕ) (before after : H) (all : List Measurement) (old : Told)
    (r : Result (Unit {0}) SetsFault) → inside ≡ seat → slice_get plan.facts.instruments i ≡ Some own → i < length seat.told → old ≡ get_or inside.told i old
    → records before after own old inside.number all r → HandsOn records plan seat i before after all r
handed_in {H} records plan inside seat own i before after all old r is found long lent made =
    of_known plan i own (λ (f : Facts). records before after f (told_at seat i) seat.number all r) found
    (subst (λ (s : RecorderValue). records before after own (told_at seat i) s.number all r) is
    (subst (λ (t : Told). records before after own t inside.number all r) (lent_is inside seat i old is long lent) made))

-- ---- one recording as a list of one

-- a list of one that a seat may make
pub admitted_one : (p : ProviderValue) (seat : RecorderValue) (i : ℕ) (one : Measurement) → IsAdmitted p seat i one → AreAdmitted p seat i (one ∷ [])
admitted_one p seat i one made = All-more (IsAdmitted p seat i) (one ∷ []) 0 one (omega arith) (λ k d below. absurd (omega (arith, below))) made

one_place : (one found : Measurement) (place : ℕ) → slice_get (one ∷ []) place ≡ Some found → place ≡ 0
one_place one found zero at = refl
one_place one found (suc place) at = absurd cc

-- the place of a refused recording of one is the first
pub only_place : (spares : Facts → Type 0) (p : ProviderValue) (seat : RecorderValue) (i : ℕ) (one : Measurement) (fault : SetsFault) → IsRefusedAfter spares p seat i (one ∷ []) fault
    → fault ≡ record { place = 0; refusal = fault.refusal }
only_place spares p seat i one fault of = ap (λ (n : ℕ). record { place = n; refusal = fault.refusal }) (one_place one of.one fault.place of.found)

only_one : (one found : Measurement) (place : ℕ) → slice_get (one ∷ []) place ≡ Some found → one ≡ found
only_one one found zero at = same_Some one found at
only_one one found (suc place) at = absurd cc

-- what it is refused for
pub answer_of_one : (spares : Facts → Type 0) (p : ProviderValue) (seat : RecorderValue) (i : ℕ) (set : List ℕ) (value : ℤ) (fault : SetsFault)
    → admitted_key p seat i set value ≡ Ok set → IsRefusedAfter spares p seat i (measurement_of set value ∷ []) fault
    → AnswersSeat spares (Ok set) p.plan seat i (Err fault.refusal)
answer_of_one spares p seat i set value fault admitted of =
    let first : AnswersKey spares p (told_of_all p.plan seat i (take fault.place (measurement_of set value ∷ []))) i (measurement_of set value) (Err fault.refusal) =
    subst (λ (one : Measurement). AnswersKey spares p (told_of_all p.plan seat i (take fault.place (measurement_of set value ∷ []))) i one (Err fault.refusal))
    (sym (only_one (measurement_of set value) of.one fault.place of.found)) of.answer in
    let here : AnswersKey spares p seat i (measurement_of set value) (Err fault.refusal) =
    subst (λ (n : ℕ). AnswersKey spares p (told_of_all p.plan seat i (take n (measurement_of set value ∷ []))) i (measurement_of set value) (Err fault.refusal))
    (one_place (measurement_of set value) of.one fault.place of.found) first in
    subst (λ (r : Result (List ℕ) Refusal). AnswersSeat spares r p.plan seat i (Err fault.refusal)) admitted here

told_of_found : (keeps : Bool) (o : Option Facts) (seat new : RecorderValue) (i : ℕ) (set : List ℕ) (value : ℤ)
    → new ≡ with_slips keeps (option_map_or (λ (own : Facts). with_recording seat i own value) o seat) i (record { set = set; value = value } ∷ [])
    → IfSome o (λ (own : Facts). new ≡ with_slip keeps seat i own set value)
told_of_found keeps None seat new i set value is = tt
told_of_found keeps (Some own) seat new i set value is = is

-- what the seat was told of it
pub told_of_one : (keeps : Bool) (plan : PlanValue) (seat new : RecorderValue) (i : ℕ) (set : List ℕ) (value : ℤ)
    → new ≡ noted_of_all keeps plan seat i (measurement_of set value ∷ []) → IsToldOf keeps (Ok set) plan seat new i value
told_of_one keeps plan seat new i set value is = told_of_found keeps (slice_get plan.facts.instruments i) seat new i set value is

-- a refused recording leaves the seat as it was
pub same_after_one : (keeps : Bool) (spares : Facts → Type 0) (p : ProviderValue) (seat new : RecorderValue) (i : ℕ) (one : Measurement) (fault : SetsFault)
    → IsRefusedAfter spares p seat i (one ∷ []) fault → new ≡ noted_of_all keeps p.plan seat i (take fault.place (one ∷ [])) → noted_of_all keeps p.plan seat i [] ≡ seat → new ≡ seat
same_after_one keeps spares p seat new i one fault of is none =
    is ∙ ap (λ (n : ℕ). noted_of_all keeps p.plan seat i (take n (one ∷ []))) (one_place one of.one fault.place of.found) ∙ none

-- ---- a set key that attributes name

key_there : (own : Facts) (set : List ℕ) (value : ℤ) → is_allowed_set own set ≡ true → in_bounds own value ≡ true → key_of own set value ≡ Ok set
key_there own set value allowed ranged =
    let parts = and_parts (is_full_set own.keys set) (permits own.allowed set) allowed in
    ap (λ (b : Bool). require b UnknownValue >>= λ _. require (permits own.allowed set) Combination >>= λ _. require (in_bounds own value) ValueRange >>= λ _. Ok set) parts.0
    ∙ ap (λ (b : Bool). require b Combination >>= λ _. require (in_bounds own value) ValueRange >>= λ _. Ok set) parts.1
    ∙ ap (λ (b : Bool). require b ValueRange >>= λ _. Ok set) ranged

-- a seat of the run may make a declared recording by its set key
pub admitted_declared : (p : ProviderValue) (seat : RecorderValue) (i : ℕ) (set : List ℕ) (value : ℤ) → is_recorder_of p seat ≡ true → IsDeclared p.plan i set value
    → admitted_key p seat i set value ≡ Ok set
admitted_declared p seat i set value mine of =
    admitted_by p seat i of.own set value mine of.found ∙ key_there of.own set value of.allowed of.ranged

pub keyed_of : (p : ProviderValue) (seat : RecorderValue) (i : ℕ) (attrs : List Given) (value : ℤ) (r : Result (List ℕ) Refusal) → IsPlan p.plan → EncodesAllowedSets
    → is_recorder_of p seat ≡ true → r ≡ declared_set p.plan i attrs value → IfOk r (λ set. admitted_key p seat i set value ≡ Ok set)
keyed_of p seat i attrs value (Err refusal) kept names mine made = tt
keyed_of p seat i attrs value (Ok set) kept names mine made =
    admitted_declared p seat i set value mine (of_attributes p.plan i attrs value set kept names (sym made))

pub keyed_again : (p : ProviderValue) (seat : RecorderValue) (i : ℕ) (set : List ℕ) (value : ℤ) (r : Result (List ℕ) Refusal)
    → is_recorder_of p seat ≡ true → r ≡ declared_key p.plan i set value → IfOk r (λ key. admitted_key p seat i key value ≡ Ok key)
keyed_again p seat i set value (Err refusal) mine made = tt
keyed_again p seat i set value (Ok key) mine made = admitted_declared p seat i key value mine (of_key p.plan i set key value (sym made))
