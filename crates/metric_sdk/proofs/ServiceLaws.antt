-- What a run that ended goes over into.
use Rattle.std.proofs.Common.{◌≡◌, ◌⊎◌, inl, inr, ◌==◌, ◌∙◌, ℕ, ◌+◌, ◌<◌, ◌≤◌, Bool, true, false, List, Option, Some, None, Result, Ok, Err}
use Rattle.std.proofs.Common.{get_or, length, sym, refl, arith}
use Rattle.std.proofs.lemmas.Option.{slice_get_cases}
use Rattle.std.specs.Prelude.{IfErr, IfOk, MatchResult, OnOk}
use Rattle.std.specs.List.{list_all, slice_get}
use Rattle.metric_io.specs.Counts.{next_count}
use Rattle.metric_periodic.specs.Outlets.{is_collected}
use Rattle.metric_periodic.specs.declared.ended.ReaderEnd.{ReaderEnd}
use Rattle.metric_periodic.specs.declared.outlets.Outlets as outlets
use Rattle.metric_plan.specs.Plans.{PlanValue}
use Rattle.metric_provider.specs.Rolling.{new_collectors, new_recorders}
use Rattle.metric_provider.specs.declared.totals.Totals.{Totals}
use Rattle.metric_seat.specs.Seats.{CollectorValue, ProviderValue, RecorderValue, provider_of, run_of}
use Rattle.metric_handles.specs.Seats.{others_of, taken_of}
use Rattle.metric_sdk.specs.Services.{AreCounted, Begins, EndsService, IsTotal, IsUntoldBy, RollsOver, ServiceValue}
use Rattle.metric_sdk.specs.declared.service.TellFault.TheVariants as tell

-- ---- what is said of an answer, by what else is said of it

pub ok_with : {T F : Type 0} (P Q : T → Type 0) (E : Type 0) (result : Result T F) → ((x : T) → Q x → E → P x)
    → IfOk result Q → OnOk result E → IfOk result P
ok_with P Q E (Ok x) by told also = by x told also
ok_with P Q E (Err fault) by told also = tt

pub err_with : {T F : Type 0} (P Q R : F → Type 0) (result : Result T F) → ((fault : F) → Q fault → R fault → P fault)
    → IfErr result Q → IfErr result R → IfErr result P
err_with P Q R (Ok x) by told also = tt
err_with P Q R (Err fault) by told also = by fault told also

pub ok_or_none : {T F : Type 0} (P Q : T → Type 0) (R : F → Type 0) (result : Result T F) → ((x : T) → Q x → P x)
    → MatchResult result Q (λ _. ⊥) → MatchResult result P R
ok_or_none P Q R (Ok x) by told = by x told
ok_or_none P Q R (Err fault) by told = absurd told

-- ---- services

-- the next run, by what the outlets, the provider and the beginning say
pub rolled_over : {O : Type 0} (by : outlets.Ghosts O) (keeps : Bool) (old : ServiceValue O) (seats : List RecorderValue) (now : ℕ)
    (told : List ReaderEnd) (is_counted are_seated : Bool) (ended : O) (provider : ProviderValue) (given : List RecorderValue)
    (collectors : List CollectorValue) (totals : Totals) (next : ServiceValue O) (recorders : List RecorderValue) (all : Totals)
    → by.ends old.provider now old.outlets ended told → true ≡ list_all is_collected told → IsTotal keeps old.provider seats totals
    → (next_count old.runs == old.provider.run.number) ≡ false
    → provider ≡ provider_of old.provider.plan (run_of old.provider.plan (next_count old.runs) now)
    → given ≡ new_recorders keeps (run_of old.provider.plan (next_count old.runs) now) old.provider.plan
    → collectors ≡ new_collectors (run_of old.provider.plan (next_count old.runs) now) old.provider.plan
    → Begins by ended old.runs provider collectors totals is_counted are_seated next → recorders ≡ given → all ≡ totals
    → RollsOver by keeps old seats now told is_counted are_seated next recorders all
rolled_over by keeps old seats now told is_counted are_seated ended provider given collectors totals next recorders all readers collected ends
    other is_next are_given are_new begins are_recorders are_totals = record {
      ended = ended;
      readers = readers;
      collected = sym collected;
      totals_are = rw are_totals ends;
      other_run = other;
      recorders_new = are_recorders ∙ are_given;
      begins = rw are_totals (rw (is_next, are_new) at begins);
    }

-- the end of a service, in the same way
pub ended_so : {O : Type 0} (by : outlets.Ghosts O) (keeps : Bool) (old : ServiceValue O) (seats : List RecorderValue) (now : ℕ)
    (told : List ReaderEnd) (is_counted : Bool) (last : O) (plan : PlanValue) (totals : Totals) (ended : O) (handed : PlanValue) (all : Totals)
    → by.ends old.provider now old.outlets last told → true ≡ list_all is_collected told → IsTotal keeps old.provider seats totals
    → plan ≡ old.provider.plan → AreCounted (by.counts last) totals is_counted → ended ≡ last → handed ≡ plan → all ≡ totals
    → EndsService by keeps old seats now told is_counted ended handed all
ended_so by keeps old seats now told is_counted last plan totals ended handed all readers collected ends is_plan counted is_last is_handed
    are_totals = record {
      readers = rw is_last readers;
      collected = sym collected;
      counted = rw (is_last, are_totals) counted;
      totals_are = rw are_totals ends;
      plan_is = is_handed ∙ is_plan;
    }

-- ---- readers

there : {X : Type 0} (xs : List X) (i : ℕ) → ((x : X) × (i < length xs) × (slice_get xs i ≡ Some x) × (get_or xs i x ≡ x))
    ⊎ ((length xs ≤ i) × (slice_get xs i ≡ None)) → i < length xs → slice_get xs i ≡ None → ⊥
there xs i (inl found) within none = cc
there xs i (inr past) within none = let over : length xs ≤ i = past.0 in omega (arith, over, within)

-- no seat of the reader is taken
pub no_reader : {O : Type 0} (takes : ℕ → ℕ → Bool) (place : Option ℕ) (service : ServiceValue O) (readers all : List CollectorValue)
    → ((p : ℕ) → place ≡ Some p → p < 0 + length readers) → taken_of readers place ≡ None → all ≡ others_of readers place
    → IsUntoldBy takes place (record { service = service; readers = readers }) (record { service = service; readers = all }) tell.UnknownReader
no_reader takes None service readers all within none is = rw is refl
no_reader takes (Some p) service readers all within none is =
    let before : p < 0 + length readers = within p refl in
    let inside : p < length readers = omega (arith, before) in
    absurd (there readers p (slice_get_cases readers p).1 inside none)
