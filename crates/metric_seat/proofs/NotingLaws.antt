-- Slips that are made before the lock is taken, and struck out where a recording is refused.
use Rattle.std.proofs.Common.{◌≡◌, ◌<◌, ◌≤◌, inl, inr, ℕ, ◌+◌, ◌-◌, ℤ, pos, Bool, true, false, List, [], ◌∷◌, ◌++◌, Option, Some, None, Result, Ok, Err, get_or, length, map, take, refl, sym, ap, subst, ◌∙◌, length-append, arith}
use Rattle.std.specs.Prelude.{◌==◌, IfSome, slice_get, slice_set}
use Rattle.std.specs.Option.{option_map_or}
use Rattle.std.proofs.Math.Seq.{take-append-add}
use Rattle.std.proofs.lemmas.Bool.{eqb-true}
use Rattle.std.proofs.lemmas.List.{append-nil, get_or-set_same, length-map, length-set, set-get_or, set-set, take-map}
use Rattle.std.proofs.lemmas.Option.{slice_get-get_or, slice_get_within}
use Rattle.metric_history.specs.declared.slip.Slip.{Slip}
use Rattle.metric_contents.specs.declared.refusal.Refusal.{Refusal}
use Rattle.metric_contents.specs.declared.refusal.Refusal.TheVariants.{Stranger, UnknownInstrument, UnknownRecorder, UnknownReader, DuplicateKey, UnknownKey, UnknownValue, MissingKey, Combination, ValueRange, Closed, Budget, NoSpare, SumRange, Memory}
use Rattle.metric_facts.specs.declared.facts.Facts.{Facts}
use Rattle.metric_plan.specs.Plans.{PlanValue}
use Rattle.metric_seat.specs.declared.fault.SetsFault.{SetsFault}
use Rattle.metric_seat.specs.declared.keys.Measurement.{Measurement}
use Rattle.metric_seat.specs.KeyRecordings.{AreAccepted, AreAdmitted, IsRefusedAfter, admitted_key, measurement_of, noted_of_all, slip_of_one, told_of, told_of_all}
use Rattle.metric_seat.specs.Handing.{Hands, HandsAny, HandsOn, Records}
use Rattle.metric_seat.specs.Recordings.{AnswersSeat, RefusesRecording, RefusesSlip, SeatSpares, told_at, with_recording, with_slips}
use Rattle.metric_seat.specs.Seats.{ProviderValue, RecorderValue, slips_at}
use Rattle.metric_slot.specs.declared.told.Told.{Told}

-- after striking out those from a place on, those before it are left
struck : (first more : List Slip) (place : ℕ) → place ≤ length more → take (length (first ++ more) - (length more - place)) (first ++ more) ≡ first ++ take place more
struck first more place within =
    let count : length (first ++ more) - (length more - place) ≡ length first + place = omega (arith, length-append first more, within) in
    ap (λ (n : ℕ). take n (first ++ more)) count ∙ take-append-add first more place

-- the seat with these slips in the place of its own
abbrev pub with_all_slips : RecorderValue → List (List Slip) → RecorderValue
with_all_slips seat slips = record seat { slips = slips }

-- ---- telling leaves the slips

one_beside : (o : Option Facts) (seat : RecorderValue) (slips : List (List Slip)) (i : ℕ) (value : ℤ)
    → option_map_or (λ (own : Facts). with_recording (with_all_slips seat slips) i own value) o (with_all_slips seat slips)
    ≡ with_all_slips (option_map_or (λ (own : Facts). with_recording seat i own value) o seat) slips
one_beside None seat slips i value = refl
one_beside (Some own) seat slips i value = refl

told_beside : (plan : PlanValue) (seat : RecorderValue) (slips : List (List Slip)) (i : ℕ) (all : List Measurement)
    → told_of_all plan (with_all_slips seat slips) i all ≡ with_all_slips (told_of_all plan seat i all) slips
told_beside plan seat slips i [] = refl
told_beside plan seat slips i (one ∷ all) =
    ap (λ (s : RecorderValue). told_of_all plan s i all) (one_beside (slice_get plan.facts.instruments i) seat slips i one.value)
    ∙ told_beside plan (told_of plan seat i one.value) slips i all

slips_stay : (plan : PlanValue) (seat : RecorderValue) (i : ℕ) (all : List Measurement) → (told_of_all plan seat i all).slips ≡ seat.slips
slips_stay plan seat i all = ap (λ (s : RecorderValue). s.slips) (told_beside plan seat seat.slips i all)

-- what was noted and then told is told and then noted
pub noted_then_told : (plan : PlanValue) (seat noted new : RecorderValue) (i : ℕ) (all : List Measurement) → noted ≡ with_slips true seat i (map slip_of_one all)
    → new ≡ told_of_all plan noted i all → new ≡ noted_of_all true plan seat i all
noted_then_told plan seat noted new i all is told =
    let more : List Slip = map slip_of_one all in
    let later : RecorderValue = told_of_all plan seat i all in
    told ∙ ap (λ (s : RecorderValue). told_of_all plan s i all) is ∙ told_beside plan seat (slice_set seat.slips i (slips_at seat i ++ more)) i all
    ∙ ap (λ (old : List (List Slip)). with_all_slips later (slice_set old i (get_or old i [] ++ more))) (sym (slips_stay plan seat i all))

-- what was noted of all, told of the first, and struck out from there on, is noted of the first
struck_seat : (plan : PlanValue) (seat noted later new : RecorderValue) (i n k : ℕ) (all : List Measurement) → i < length seat.slips → n ≤ length all → k ≡ length all - n
    → noted ≡ with_slips true seat i (map slip_of_one all) → later ≡ told_of_all plan noted i (take n all)
    → new ≡ with_all_slips later (slice_set later.slips i (take (length (slips_at later i) - k) (slips_at later i)))
    → new ≡ noted_of_all true plan seat i (take n all)
struck_seat plan seat noted later new i n k all long within count is told out =
    let first : List Slip = slips_at seat i in
    let more : List Slip = map slip_of_one all in
    let made : List Measurement = take n all in
    let slips : List (List Slip) = slice_set seat.slips i (first ++ more) in
    let after : RecorderValue = told_of_all plan seat i made in
    let between : later ≡ with_all_slips after slips =
    told ∙ ap (λ (s : RecorderValue). told_of_all plan s i made) is ∙ told_beside plan seat slips i made in
    let here : get_or slips i [] ≡ first ++ more = get_or-set_same seat.slips i (first ++ more) [] long in
    let left : take (length (first ++ more) - k) (first ++ more) ≡ first ++ map slip_of_one made =
    ap (λ (m : ℕ). take (length (first ++ more) - m) (first ++ more)) (count ∙ ap (λ (m : ℕ). m - n) (sym (length-map all slip_of_one)))
    ∙ struck first more n (omega (arith, length-map all slip_of_one, within)) ∙ ap (λ (xs : List Slip). first ++ xs) (take-map slip_of_one n all) in
    out ∙ ap (λ (s : RecorderValue). with_all_slips s (slice_set s.slips i (take (length (slips_at s i) - k) (slips_at s i)))) between
    ∙ ap (λ (xs : List Slip). with_all_slips after (slice_set slips i (take (length xs - k) xs))) here
    ∙ ap (λ (xs : List Slip). with_all_slips after (slice_set slips i xs)) left
    ∙ ap (λ (all : List (List Slip)). with_all_slips after all) (set-set seat.slips i (first ++ more) (first ++ map slip_of_one made))
    ∙ ap (λ (old : List (List Slip)). with_all_slips after (slice_set old i (get_or old i [] ++ map slip_of_one made))) (sym (slips_stay plan seat i made))

-- noting nothing
none_noted : (seat : RecorderValue) (i : ℕ) → with_slips true seat i [] ≡ seat
none_noted seat i = ap (λ (xs : List Slip). with_all_slips seat (slice_set seat.slips i xs)) (append-nil (slips_at seat i)) ∙ ap (λ (all : List (List Slip)). with_all_slips seat all) (set-get_or seat.slips i [])

pub none_noted_any : (keeps : Bool) (seat : RecorderValue) (i : ℕ) → with_slips keeps seat i [] ≡ seat
none_noted_any true seat i = none_noted seat i
none_noted_any false seat i = refl

pub nothing_there : (all : List Measurement) → (length all == 0) ≡ true → all ≡ []
nothing_there [] none = refl
nothing_there (one ∷ all) none = absurd (omega (arith, eqb-true (length (one ∷ all)) 0 none))

pub nothing_said : (keeps : Bool) (plan : PlanValue) (seat new : RecorderValue) (i : ℕ) (all : List Measurement) → all ≡ [] → new ≡ seat → new ≡ noted_of_all keeps plan seat i all
nothing_said keeps plan seat new i all none same =
    same ∙ sym (none_noted_any keeps seat i) ∙ ap (λ (xs : List Measurement). noted_of_all keeps plan seat i xs) (sym none)

-- ---- refusals

spared_refusal : (keeps : Bool) (spares : Facts → Type 0) (own : Facts) (by : ℕ) (told : Told) (refusal : Refusal) → RefusesRecording spares own by told refusal
    → RefusesRecording (SeatSpares keeps spares) own by told refusal
spared_refusal keeps spares own by told Stranger why = tt
spared_refusal keeps spares own by told Closed why = tt
spared_refusal keeps spares own by told Budget why = why
spared_refusal keeps spares own by told Memory why = λ both. why both.1
spared_refusal keeps spares own by told UnknownInstrument why = absurd why
spared_refusal keeps spares own by told UnknownRecorder why = absurd why
spared_refusal keeps spares own by told UnknownReader why = absurd why
spared_refusal keeps spares own by told DuplicateKey why = absurd why
spared_refusal keeps spares own by told UnknownKey why = absurd why
spared_refusal keeps spares own by told UnknownValue why = absurd why
spared_refusal keeps spares own by told MissingKey why = absurd why
spared_refusal keeps spares own by told Combination why = absurd why
spared_refusal keeps spares own by told ValueRange why = absurd why
spared_refusal keeps spares own by told NoSpare why = absurd why
spared_refusal keeps spares own by told SumRange why = absurd why

slip_refusal : (spares : Facts → Type 0) (own : Facts) (by : ℕ) (told : Told) (refusal : Refusal) → RefusesSlip refusal → RefusesRecording (SeatSpares true spares) own by told refusal
slip_refusal spares own by told Stranger why = tt
slip_refusal spares own by told Memory why = λ both. let never : true ≡ false = both.0 in absurd cc
slip_refusal spares own by told Closed why = absurd why
slip_refusal spares own by told Budget why = absurd why
slip_refusal spares own by told UnknownInstrument why = absurd why
slip_refusal spares own by told UnknownRecorder why = absurd why
slip_refusal spares own by told UnknownReader why = absurd why
slip_refusal spares own by told DuplicateKey why = absurd why
slip_refusal spares own by told UnknownKey why = absurd why
slip_refusal spares own by told UnknownValue why = absurd why
slip_refusal spares own by told MissingKey why = absurd why
slip_refusal spares own by told Combination why = absurd why
slip_refusal spares own by told ValueRange why = absurd why
slip_refusal spares own by told NoSpare why = absurd why
slip_refusal spares own by told SumRange why = absurd why

if_some : (o : Option Facts) (P Q : Facts → Type 0) → ((own : Facts) → P own → Q own) → IfSome o P → IfSome o Q
if_some None P Q gives p = tt
if_some (Some own) P Q gives p = gives own p

always : (o : Option Facts) (P : Facts → Type 0) → ((own : Facts) → P own) → IfSome o P
always None P gives = tt
always (Some own) P gives = gives own

pub spared : (keeps : Bool) (spares : Facts → Type 0) (admission : Result (List ℕ) Refusal) (plan : PlanValue) (seat : RecorderValue) (i : ℕ) (r : Result (Unit {0}) Refusal)
    → AnswersSeat spares admission plan seat i r → AnswersSeat (SeatSpares keeps spares) admission plan seat i r
spared keeps spares (Err first) plan seat i (Err refusal) answer = answer
spared keeps spares (Err first) plan seat i (Ok done) answer = absurd answer
spared keeps spares (Ok set) plan seat i (Ok done) answer = tt
spared keeps spares (Ok set) plan seat i (Err refusal) answer =
    if_some (slice_get plan.facts.instruments i) (λ (own : Facts). RefusesRecording spares own seat.number (told_at seat i) refusal)
    (λ (own : Facts). RefusesRecording (SeatSpares keeps spares) own seat.number (told_at seat i) refusal)
    (λ own why. spared_refusal keeps spares own seat.number (told_at seat i) refusal why) answer

no_slip : (spares : Facts → Type 0) (set : List ℕ) (plan : PlanValue) (seat : RecorderValue) (i : ℕ) (refusal : Refusal) → RefusesSlip refusal
    → AnswersSeat (SeatSpares true spares) (Ok set) plan seat i (Err refusal)
no_slip spares set plan seat i refusal why =
    always (slice_get plan.facts.instruments i) (λ (own : Facts). RefusesRecording (SeatSpares true spares) own seat.number (told_at seat i) refusal)
    (λ own. slip_refusal spares own seat.number (told_at seat i) refusal why)

-- ---- lists

spared_all : (keeps : Bool) (spares : Facts → Type 0) (p : ProviderValue) (seat : RecorderValue) (i : ℕ) (all : List Measurement) → AreAccepted spares p seat i all
    → AreAccepted (SeatSpares keeps spares) p seat i all
spared_all keeps spares p seat i all accepted place one found =
    let later : RecorderValue = told_of_all p.plan seat i (take place all) in
    spared keeps spares (admitted_key p later i one.set one.value) p.plan later i (Ok tt) (accepted place one found)

pub spared_after : (keeps : Bool) (spares : Facts → Type 0) (p : ProviderValue) (seat : RecorderValue) (i : ℕ) (all : List Measurement) (fault : SetsFault) → IsRefusedAfter spares p seat i all fault
    → IsRefusedAfter (SeatSpares keeps spares) p seat i all fault
spared_after keeps spares p seat i all fault of =
    let later : RecorderValue = told_of_all p.plan seat i (take fault.place all) in
    record {
      before = spared_all keeps spares p seat i (take fault.place all) of.before;
      one = of.one;
      found = of.found;
      answer = spared keeps spares (admitted_key p later i of.one.set of.one.value) p.plan later i (Err fault.refusal) of.answer;
    }

no_measurement : Measurement
no_measurement = measurement_of [] (pos 0)

none_before : (spares : Facts → Type 0) (p : ProviderValue) (seat : RecorderValue) (i : ℕ) → AreAccepted spares p seat i []
none_before spares p seat i place one found = absurd cc

-- the first of a list is refused, where its slips are
pub no_slips_after : (spares : Facts → Type 0) (p : ProviderValue) (seat : RecorderValue) (i : ℕ) (all : List Measurement) (refusal : Refusal) → 0 < length all → AreAdmitted p seat i all
    → RefusesSlip refusal → IsRefusedAfter (SeatSpares true spares) p seat i all (record { place = 0; refusal = refusal })
no_slips_after spares p seat i all refusal some admitted why =
    let one : Measurement = get_or all 0 no_measurement in
    record {
      before = none_before (SeatSpares true spares) p seat i;
      one = one;
      found = slice_get-get_or all 0 no_measurement some;
      answer = subst (λ (r : Result (List ℕ) Refusal). AnswersSeat (SeatSpares true spares) r p.plan seat i (Err refusal)) (sym (admitted 0 no_measurement some))
          (no_slip spares one.set p.plan seat i refusal why);
    }

-- what admits a seat and what it is answered has nothing of its slips
alike_all : (spares : Facts → Type 0) (p : ProviderValue) (seat : RecorderValue) (i : ℕ) (slips : List (List Slip)) (all : List Measurement) (one : Measurement) (r : Result (Unit {0}) Refusal)
    → AnswersSeat spares (admitted_key p (told_of_all p.plan (with_all_slips seat slips) i all) i one.set one.value) p.plan (told_of_all p.plan (with_all_slips seat slips) i all) i r
    → AnswersSeat spares (admitted_key p (told_of_all p.plan seat i all) i one.set one.value) p.plan (told_of_all p.plan seat i all) i r
alike_all spares p seat i slips all one r answer =
    at (admitted_key p (told_of_all p.plan seat i all) i one.set one.value) r
    (subst (λ (s : RecorderValue). AnswersSeat spares (admitted_key p s i one.set one.value) p.plan s i r) (told_beside p.plan seat slips i all) answer)
  where
    at : (admission : Result (List ℕ) Refusal) (r : Result (Unit {0}) Refusal) → AnswersSeat spares admission p.plan (with_all_slips (told_of_all p.plan seat i all) slips) i r
        → AnswersSeat spares admission p.plan (told_of_all p.plan seat i all) i r
    at (Err first) (Err refusal) given = given
    at (Err first) (Ok done) given = given
    at (Ok set) (Ok done) given = given
    at (Ok set) (Err refusal) given = given

alike_accepted : (spares : Facts → Type 0) (p : ProviderValue) (seat : RecorderValue) (i : ℕ) (slips : List (List Slip)) (all : List Measurement)
    → AreAccepted spares p (with_all_slips seat slips) i all → AreAccepted spares p seat i all
alike_accepted spares p seat i slips all accepted place one found =
    alike_all spares p seat i slips (take place all) one (Ok tt) (accepted place one found)

pub alike_after : (spares : Facts → Type 0) (p : ProviderValue) (seat noted : RecorderValue) (i : ℕ) (slips : List (List Slip)) (all : List Measurement) (fault : SetsFault)
    → noted ≡ with_all_slips seat slips → IsRefusedAfter spares p noted i all fault → IsRefusedAfter (SeatSpares true spares) p seat i all fault
alike_after spares p seat noted i slips all fault is of =
    spared_after true spares p seat i all fault (back (subst (λ (s : RecorderValue). IsRefusedAfter spares p s i all fault) is of))
  where
    back : IsRefusedAfter spares p (with_all_slips seat slips) i all fault → IsRefusedAfter spares p seat i all fault
    back given = record {
      before = alike_accepted spares p seat i slips (take fault.place all) given.before;
      one = given.one;
      found = given.found;
      answer = alike_all spares p seat i slips (take fault.place all) given.one (Err fault.refusal) given.answer;
    }

pub admitted_alike : (p : ProviderValue) (seat noted : RecorderValue) (i : ℕ) (slips : List (List Slip)) (all : List Measurement) → noted ≡ with_all_slips seat slips
    → AreAdmitted p seat i all → AreAdmitted p noted i all
admitted_alike p seat noted i slips all is admitted = subst (λ (s : RecorderValue). AreAdmitted p s i all) (sym is) admitted

-- what is left after the first so many, where one of all is refused
pub struck_after : (spares : Facts → Type 0) (p : ProviderValue) (seat noted later new : RecorderValue) (i k : ℕ) (all : List Measurement) (fault : SetsFault)
    → i < length seat.slips → noted ≡ with_slips true seat i (map slip_of_one all) → IsRefusedAfter spares p noted i all fault → k ≡ length all - fault.place
    → later ≡ told_of_all p.plan noted i (take fault.place all)
    → new ≡ with_all_slips later (slice_set later.slips i (take (length (slips_at later i) - k) (slips_at later i)))
    → new ≡ noted_of_all true p.plan seat i (take fault.place all)
struck_after spares p seat noted later new i k all fault long is of count told out =
    let within : fault.place < length all = slice_get_within all fault.place of.one of.found in
    struck_seat p.plan seat noted later new i fault.place k all long (omega (arith, within)) count is told out

-- telling makes no list of slips longer or shorter
pub still_long : (plan : PlanValue) (seat noted later : RecorderValue) (i : ℕ) (more : List Slip) (made : List Measurement) → i < length seat.slips → noted ≡ with_slips true seat i more
    → later ≡ told_of_all plan noted i made → i < length later.slips
still_long plan seat noted later i more made long is told =
    let same : later.slips ≡ slice_set seat.slips i (slips_at seat i ++ more) =
    ap (λ (s : RecorderValue). s.slips) told ∙ slips_stay plan noted i made ∙ ap (λ (s : RecorderValue). s.slips) is in
    omega (arith, long, ap (λ (all : List (List Slip)). length all) same, length-set seat.slips i (slips_at seat i ++ more))

-- ---- what is handed on

pub hands_of : {H : Type 0} (keeps : Bool) (records : Records H) (plan : PlanValue) (seat : RecorderValue) (i : ℕ) (old new : H) (all : List Measurement) (r : Result (Unit {0}) SetsFault)
    → HandsOn records plan seat i old new all r → Hands keeps records plan seat i old new all r
hands_of {H} keeps records plan seat i old new all (Ok done) handed = handed
hands_of {H} keeps records plan seat i old new all (Err fault) handed = inr handed

-- a seat with other slips hands on alike
pub handed_alike : {H : Type 0} (records : Records H) (plan : PlanValue) (seat noted : RecorderValue) (i : ℕ) (more : List Slip) (old new : H) (all : List Measurement)
    (r : Result (Unit {0}) SetsFault) → noted ≡ with_slips true seat i more → HandsOn records plan noted i old new all r → HandsOn records plan seat i old new all r
handed_alike {H} records plan seat noted i more old new all r is handed = subst (λ (s : RecorderValue). HandsOn records plan s i old new all r) is handed

-- a list of one is not empty
pub one_handed : {H : Type 0} (keeps : Bool) (records : Records H) (plan : PlanValue) (seat : RecorderValue) (i : ℕ) (old new : H) (one : Measurement) (r : Result (Unit {0}) SetsFault)
    → HandsAny keeps records plan seat i old new (one ∷ []) r → Hands keeps records plan seat i old new (one ∷ []) r
one_handed {H} keeps records plan seat i old new one r (inl none) = let empty : one ∷ [] ≡ [] = none.0 in absurd cc
one_handed {H} keeps records plan seat i old new one r (inr handed) = handed
