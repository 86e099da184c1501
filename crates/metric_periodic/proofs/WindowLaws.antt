-- Each recording that a reader has seen is in one window.
use Rattle.std.proofs.Common.{◌≡◌, ◌≢◌, ◌∙◌, ◌≤◌, ◌<◌, ◌+◌, ℕ, zero, suc, Bool, true, false, ◌&&◌, List, [], ◌∷◌, ◌++◌}
use Rattle.std.proofs.Common.{Option, Some, None, Result, Ok, Err, ⊎_elim, ap, arith, filter, length, refl, subst, sym}
use Rattle.std.specs.Prelude.{if◌then◌else◌, nat_le, nat_lt, slice_get}
use Rattle.std.proofs.lemmas.Bool.{cases_eq, eq-eqb, le-leb, leb-true, lt-leb, lt-ltb, ltb-false, ltb-true, ne_eqb}
use Rattle.std.proofs.lemmas.List.{get_or-set_other, get_or-set_same}
use Rattle.std.proofs.lemmas.List.Elements.{filter-append}
use Rattle.std.proofs.lemmas.Option.{same_Some, slice_get_within}
use Rattle.metric_contents.specs.declared.refusal.Refusal.{Refusal}
use Rattle.metric_export.specs.Handings.{has_points}
use Rattle.metric_facts.specs.declared.facts.Facts.{Facts}
use Rattle.metric_facts.specs.Facts.{is_delta}
use Rattle.metric_history.specs.declared.batch.Batch.{Batch}
use Rattle.metric_plan.specs.Plans.{IsPlan}
use Rattle.metric_plan.specs.PlanFacts.{plan_facts_at}
use Rattle.metric_seat.specs.Collections.{IsNextBatch}
use Rattle.metric_seat.specs.Seats.{CollectorValue, ProviderValue, seen_at}
use Rattle.metric_slot.specs.Sightings.{nothing_seen, seen_of}
use Rattle.metric_provider.proofs.CollectLaws.{collected}
use Rattle.metric_periodic.specs.Each.{CollectsFirst, CollectsOne, given_by}
use Rattle.metric_periodic.specs.Outlets.{CollectsTold, Showing}
use Rattle.metric_periodic.specs.Shown.{is_of, is_told}
use Rattle.metric_periodic.specs.Windows.{AreCollections, AreWindows, ToldOnce, given_of, is_within, times_told}
use Rattle.metric_periodic.specs.declared.each.RefusedInstrument.{RefusedInstrument}
use Rattle.metric_periodic.specs.declared.ended.Uncollected.{Uncollected}
use Rattle.metric_periodic.specs.declared.ended.Uncollected.TheVariants.{All, Instruments}
use Rattle.metric_periodic.specs.declared.shown.Shown.{Shown}

-- windows and those after them
windows_append : (xs ys : List Batch) (a b c : ℕ) → AreWindows xs a b → AreWindows ys b c → AreWindows (xs ++ ys) a c
windows_append [] ys a b c first next = rw first at next
windows_append (x ∷ xs) ys a b c first next = (first.0, (first.1.0, windows_append xs ys x.mark b c first.1.1 next))

windows_rise : (xs : List Batch) (from mark : ℕ) → AreWindows xs from mark → from ≤ mark
windows_rise [] from mark are = omega (arith, are)
windows_rise (x ∷ xs) from mark are = let rest = windows_rise xs x.mark mark are.1.1 in omega (arith, are.1.0, rest)

-- none counts what is in no window
in_none : (from number : ℕ) (above below : Bool) → nat_le from number ≡ above → nat_lt number from ≡ below
    → times_told [] number ≡ (if above && below then 1 else 0)
in_none from number true true lower upper =
    let low = leb-true from number lower in
    let high = ltb-true number from upper in
    absurd (omega (arith, low, high))
in_none from number true false lower upper = refl
in_none from number false below lower upper = refl

-- one window more
one_more : (x : Batch) (from mark number : ℕ) (before : Bool) → nat_lt number x.mark ≡ before → x.from ≡ from → from ≤ x.mark → x.mark ≤ mark
    → ((if is_within x.from x.mark number then 1 else 0) + (if is_within x.mark mark number then 1 else 0))
    ≡ (if is_within from mark number then 1 else 0)
one_more x from mark number true before is above rise =
    let under = ltb-true number x.mark before in
    let past : nat_le x.mark number ≡ false = lt-leb x.mark number under in
    let below : nat_lt number mark ≡ true = lt-ltb number mark (omega (arith, under, rise)) in
    rw (is, before, past, below) (last (nat_le from number))
  where
    last : (b : Bool) → ((if b && true then 1 else 0) + 0) ≡ (if b && true then 1 else 0)
    last true = refl
    last false = refl
one_more x from mark number false before is above rise =
    let over : x.mark ≤ number = ltb-false number x.mark before in
    let past : nat_le x.mark number ≡ true = le-leb x.mark number over in
    let since : nat_le from number ≡ true = le-leb from number (omega (arith, over, above)) in
    rw (is, before, past, since) (omega arith)

-- the first window counts a recording or not
counted_first : (x : Batch) (xs : List Batch) (number : ℕ) (within : Bool) → is_within x.from x.mark number ≡ within
    → times_told (x ∷ xs) number ≡ (if is_within x.from x.mark number then 1 else 0) + times_told xs number
counted_first x xs number true is = rw is (omega arith)
counted_first x xs number false is = rw is (omega arith)

told_once : (xs : List Batch) (from mark : ℕ) → AreWindows xs from mark → (number : ℕ)
    → times_told xs number ≡ (if is_within from mark number then 1 else 0)
told_once [] from mark are number = rw are (in_none from number (nat_le from number) (nat_lt number from) refl refl)
told_once (x ∷ xs) from mark are number =
    counted_first x xs number (is_within x.from x.mark number) refl
    ∙ ap (λ (n : ℕ). (if is_within x.from x.mark number then 1 else 0) + n) (told_once xs x.mark mark are.1.1 number)
    ∙ one_more x from mark number (nat_lt number x.mark) refl are.0 are.1.0 (windows_rise xs x.mark mark are.1.1)

-- ---- what is handed on of what was given

-- what is kept by a test is kept where all else that it passes is kept first
kept_first : (p q t : Batch → Bool) → ((x : Batch) → p x ≡ true → t x ≡ true) → (xs : List Batch)
    → filter p (filter q (filter t xs)) ≡ filter p (filter q xs)
kept_first p q t passes [] = refl
kept_first p q t passes (x ∷ xs) = by (p x) (q x) (t x) refl refl refl (kept_first p q t passes xs)
  where
    by : (a b c : Bool) → p x ≡ a → q x ≡ b → t x ≡ c → filter p (filter q (filter t xs)) ≡ filter p (filter q xs)
        → filter p (filter q (filter t (x ∷ xs))) ≡ filter p (filter q (x ∷ xs))
    by true true true pointed own told rest = rw (told, own, pointed) (ap (λ (all : List Batch). x ∷ all) rest)
    by false true true pointed own told rest = rw (told, own, pointed) rest
    by a false true pointed own told rest = rw (told, own) rest
    by true b false pointed own told rest = let clash : true ≡ false = sym (passes x pointed) ∙ told in absurd cc
    by false true false pointed own told rest = rw (told, own, pointed) rest
    by false false false pointed own told rest = rw (told, own) rest

told_with_points : (shown : List Shown) (batch : Batch) → has_points batch ≡ true → is_told shown batch ≡ true
told_with_points shown batch pointed = rw pointed refl

-- ---- the windows of an instrument

-- what a collection of an instrument adds to its windows
record Added (instrument : ℕ) (old new : CollectorValue) (given : List Batch) : Type 0 where
  number : new.number ≡ old.number
  windows : AreWindows (filter (is_of instrument) given) (seen_at old instrument).mark (seen_at new instrument).mark

own_added : (p : ProviderValue) (own : Facts) (instrument now : ℕ) (old new : CollectorValue) (batch : Batch) → IsPlan p.plan
    → slice_get p.plan.facts.instruments instrument ≡ Some own → is_delta own old.number ≡ true
    → CollectsOne p now instrument old new (Ok batch) → Added instrument old new (batch ∷ [])
own_added p own instrument now old new batch plan at delta told =
    let a = collected p old instrument now batch told.0 in
    let is_own : a.own ≡ own = same_Some a.own own (sym a.found ∙ at) in
    let next : IsNextBatch own old.run.start old.number (seen_at old instrument) now batch =
    subst (λ (f : Facts). IsNextBatch f old.run.start old.number (seen_at old instrument) now batch) is_own a.next in
    let numbered : own.instrument ≡ instrument = ap (λ (f : Facts). f.instrument) (plan_facts_at p.plan instrument own plan at).is in
    let mine : is_of instrument batch ≡ true = eq-eqb batch.instrument instrument (next.continues.instrument ∙ numbered) in
    let below : instrument < length old.seen = omega (arith, a.long, slice_get_within p.plan.facts.instruments instrument own at) in
    let seen : seen_at new instrument ≡ seen_of batch = ap (λ (s : CollectorValue). seen_at s instrument) told.1
    ∙ get_or-set_same old.seen instrument (seen_of batch) (nothing_seen old.run.start) below in
    record {
      number = ap (λ (s : CollectorValue). s.number) told.1;
      windows = rw (mine, seen) (rw delta at next.continues.from, (next.continues.mark, refl));
    }

other_added : (p : ProviderValue) (instrument now k : ℕ) (old new : CollectorValue) (batch : Batch) → IsPlan p.plan → k ≢ instrument
    → CollectsOne p now k old new (Ok batch) → Added instrument old new (batch ∷ [])
other_added p instrument now k old new batch plan differs told =
    let a = collected p old k now batch told.0 in
    let numbered : a.own.instrument ≡ k = ap (λ (f : Facts). f.instrument) (plan_facts_at p.plan k a.own plan a.found).is in
    let of : batch.instrument ≡ k = a.next.continues.instrument ∙ numbered in
    let other : is_of instrument batch ≡ false = ne_eqb batch.instrument instrument (λ same. differs (sym of ∙ same)) in
    let seen : seen_at new instrument ≡ seen_at old instrument = ap (λ (s : CollectorValue). seen_at s instrument) told.1
    ∙ get_or-set_other old.seen k instrument (seen_of batch) (nothing_seen old.run.start) (λ same. differs (sym same)) in
    record {
      number = ap (λ (s : CollectorValue). s.number) told.1;
      windows = rw (other, seen) refl;
    }

one_added : (p : ProviderValue) (own : Facts) (instrument now k : ℕ) (old new : CollectorValue) (answer : Result Batch Refusal) → IsPlan p.plan
    → slice_get p.plan.facts.instruments instrument ≡ Some own → is_delta own old.number ≡ true
    → CollectsOne p now k old new answer → Added instrument old new (given_by answer)
one_added p own instrument now k old new (Err refusal) plan at delta told =
    record { number = ap (λ (s : CollectorValue). s.number) told.1; windows = rw told.1 refl }
one_added p own instrument now k old new (Ok batch) plan at delta told =
    ⊎_elim (λ same. own_added p own instrument now old new batch plan at delta (rw same at told))
    (λ differs. other_added p instrument now k old new batch plan differs told) (cases_eq k instrument)

first_added : (p : ProviderValue) (own : Facts) (instrument now count : ℕ) (old new : CollectorValue) (given : List Batch)
    (refused : List RefusedInstrument) → IsPlan p.plan → slice_get p.plan.facts.instruments instrument ≡ Some own
    → is_delta own old.number ≡ true → CollectsFirst p now count old new given refused → Added instrument old new given
first_added p own instrument now zero old new given refused plan at delta all =
    record { number = ap (λ (s : CollectorValue). s.number) all.0; windows = rw (all.0, all.1.0) refl }
first_added p own instrument now (suc count) old new given refused plan at delta all =
    let mid = all.0 in
    let before = all.1.0 in
    let next = all.1.1.1.1 in
    let first : Added instrument old mid before = first_added p own instrument now count old mid before all.1.1.0 plan at delta all.1.1.1.0 in
    let last : Added instrument mid new (given_by next.answer) =
    one_added p own instrument now count mid new next.answer plan at (rw first.number delta) next.one in
    record {
      number = last.number ∙ first.number;
      windows = rw (next.batches, filter-append (is_of instrument) before (given_by next.answer))
          (windows_append (filter (is_of instrument) before) (filter (is_of instrument) (given_by next.answer)) (seen_at old instrument).mark
          (seen_at mid instrument).mark (seen_at new instrument).mark first.windows last.windows);
    }

-- what a collection of an outlet adds
told_added : (p : ProviderValue) (own : Facts) (instrument now : ℕ) (old new : Showing) (batches : List Batch) (refused : Option Uncollected)
    → IsPlan p.plan → slice_get p.plan.facts.instruments instrument ≡ Some own → is_delta own old.seat.number ≡ true
    → (told : CollectsTold p now old new batches refused) → Added instrument old.seat new.seat (given_of p now old new batches refused told)
told_added p own instrument now old new batches None plan at delta told =
    first_added p own instrument now (length p.plan.facts.instruments) old.seat new.seat told.given [] plan at delta told.all
told_added p own instrument now old new batches (Some All) plan at delta told =
    record { number = ap (λ (s : Showing). s.seat.number) told.0; windows = rw told.0 refl }
told_added p own instrument now old new batches (Some (Instruments refused)) plan at delta told =
    first_added p own instrument now (length p.plan.facts.instruments) old.seat new.seat told.0.given refused.items plan at delta told.0.all

told_pointed : (p : ProviderValue) (instrument now : ℕ) (old new : Showing) (batches : List Batch) (refused : Option Uncollected)
    (told : CollectsTold p now old new batches refused)
    → filter has_points (filter (is_of instrument) batches)
    ≡ filter has_points (filter (is_of instrument) (given_of p now old new batches refused told))
told_pointed p instrument now old new batches None told =
    ap (λ (all : List Batch). filter has_points (filter (is_of instrument) all)) told.told
    ∙ kept_first has_points (is_of instrument) (is_told old.shown) (told_with_points old.shown) told.given
told_pointed p instrument now old new batches (Some All) told =
    ap (λ (all : List Batch). filter has_points (filter (is_of instrument) all)) told.1
told_pointed p instrument now old new batches (Some (Instruments refused)) told =
    ap (λ (all : List Batch). filter has_points (filter (is_of instrument) all)) told.0.told
    ∙ kept_first has_points (is_of instrument) (is_told old.shown) (told_with_points old.shown) told.0.given

-- ---- a run

record Windows (instrument : ℕ) (old new : CollectorValue) (given handed : List Batch) : Type 0 where
  number : new.number ≡ old.number
  windows : AreWindows given (seen_at old instrument).mark (seen_at new instrument).mark
  pointed : filter has_points handed ≡ filter has_points given

of_run : (p : ProviderValue) (own : Facts) (instrument made : ℕ) (old new : CollectorValue) (given handed : List Batch) → IsPlan p.plan
    → slice_get p.plan.facts.instruments instrument ≡ Some own → is_delta own old.number ≡ true
    → AreCollections p instrument made old new given handed → Windows instrument old new given handed
of_run p own instrument zero old new given handed plan at delta all =
    record { number = ap (λ (s : CollectorValue). s.number) all.0; windows = rw (all.0, all.1.0) refl; pointed = rw (all.1.0, all.1.1) refl }
of_run p own instrument (suc made) old new given handed plan at delta all =
    let mid = all.0 in
    let earlier = all.1.0 in
    let before = all.1.1.0 in
    let last = all.1.1.1.1 in
    let rest : Windows instrument old mid earlier before = of_run p own instrument made old mid earlier before plan at delta all.1.1.1.0 in
    let here : List Batch = given_of p last.now last.from last.to last.batches last.refused last.collects in
    let seated : is_delta own last.from.seat.number ≡ true = rw (last.from_is, rest.number) delta in
    let turned : Added instrument last.from.seat last.to.seat here =
    told_added p own instrument last.now last.from last.to last.batches last.refused plan at seated last.collects in
    let added : Added instrument mid new here = subst (λ (s : CollectorValue). Added instrument s new here) last.from_is
    (subst (λ (s : CollectorValue). Added instrument last.from.seat s here) last.to_is turned) in
    record {
      number = added.number ∙ rest.number;
      windows = rw last.given_is (windows_append earlier (filter (is_of instrument) here) (seen_at old instrument).mark
          (seen_at mid instrument).mark (seen_at new instrument).mark rest.windows added.windows);
      pointed = rw (
        last.given_is,
        last.handed_is,
        filter-append has_points before (filter (is_of instrument) last.batches),
        filter-append has_points earlier (filter (is_of instrument) here),
        rest.pointed,
        told_pointed p instrument last.now last.from last.to last.batches last.refused last.collects,
      ) refl;
    }

pub each_once : (p : ProviderValue) (instrument made : ℕ) (own : Facts) (seat last : CollectorValue) (given handed : List Batch) → IsPlan p.plan
    → slice_get p.plan.facts.instruments instrument ≡ Some own → is_delta own seat.number ≡ true → (seen_at seat instrument).mark ≡ 0
    → AreCollections p instrument made seat last given handed → ToldOnce p instrument last given handed
each_once p instrument made own seat last given handed plan at delta new all =
    let run : Windows instrument seat last given handed = of_run p own instrument made seat last given handed plan at delta all in
    record {
      once = λ number. told_once given 0 (seen_at last instrument).mark (rw new at run.windows) number ∙ rw (le-leb 0 number (omega arith)) refl;
      pointed = run.pointed;
    }
