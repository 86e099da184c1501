-- Whether what is added can be taken away again.
use Rattle.std.proofs.Common.{◌≡◌, ◌≤◌, ◌+◌, ◌-◌, ℕ, Bool, true, false, Option, Some, None, Ok, List, negsuc, ap, inl, inr, subst, sym, unwrap_or, ◌∙◌, arith}
use Rattle.std.specs.Prelude.{IsSomeAnd, slice_get, slice_index, slice_index_or}
use Rattle.std.proofs.lemmas.Option.{same_Some, unwrap_or-slice_get}
use Rattle.metric_facts.specs.declared.facts.Facts.{Facts}
use Rattle.metric_facts.specs.Facts.{in_bounds}
use Rattle.metric_plan.specs.Plans.{PlanValue, print_of}
use Rattle.metric_provider.specs.Rooms.{AnswersRoom}
use Rattle.metric_seat.specs.Recordings.{told_at}
use Rattle.metric_seat.specs.Seats.{ProviderValue, RecorderValue, is_recorder_of, nothing_told}
use Rattle.metric_slot.specs.declared.told.Told.{Told}
use Rattle.metric_contents.specs.declared.refusal.Refusal.TheVariants.{ValueRange}
use Rattle.metric_handles.specs.Bounds.{BoundValue}
use Rattle.metric_handles.specs.Jobs.{TellsNeed}
use Rattle.metric_handles.specs.Works.{HasRoomForBoth, HasWayBack, LacksWayBack}
use Rattle.metric_handles.specs.declared.jobs.Need.{Need}

room_within : (known : Option Facts) (is_own : Bool) (n room : ℕ) (told : Told) (own : Facts) → known ≡ Some own
    → AnswersRoom is_own known n told (Ok room) → 2 ≤ room → told.count + 2 ≤ slice_index own.budgets n + own.spare
room_within None is_own n room told own found told_room enough = absurd told_room
room_within (Some f) is_own n room told own found (mine, within) enough =
    let P : Facts → Type 0 = λ g. told.count + 2 ≤ slice_index g.budgets n + g.spare in
    subst P (same_Some _ _ found) (omega (arith, within.most, enough))

has_way_by_room : (plan : PlanValue) (seat : RecorderValue) (i : ℕ) (is_own : Bool) (room : ℕ) (own : Facts)
    → slice_get plan.facts.instruments i ≡ Some own → in_bounds own (negsuc 0) ≡ true
    → AnswersRoom is_own (slice_get plan.facts.instruments i) seat.number (told_at seat i) (Ok room) → 2 ≤ room
    → HasWayBack plan seat i
has_way_by_room plan seat i is_own room own found ranged told_room enough = record {
  ranged = λ other is. subst (λ (g : Facts). in_bounds g (negsuc 0) ≡ true) (same_Some _ _ (sym found ∙ is)) ranged;
  room = λ other is. room_within (slice_get plan.facts.instruments i) is_own seat.number room (told_at seat i) other is told_room enough;
}

has_way_by_budget : (plan : PlanValue) (seat : RecorderValue) (i : ℕ) (own : Facts)
    → slice_get plan.facts.instruments i ≡ Some own → in_bounds own (negsuc 0) ≡ true
    → 2 ≤ slice_index own.budgets seat.number - (told_at seat i).count → HasWayBack plan seat i
has_way_by_budget plan seat i own found ranged enough =
    let P : Facts → Type 0 = λ g. (told_at seat i).count + 2 ≤ slice_index g.budgets seat.number + g.spare in
    record {
      ranged = λ other is. subst (λ (g : Facts). in_bounds g (negsuc 0) ≡ true) (same_Some _ _ (sym found ∙ is)) ranged;
      room = λ other is. subst P (same_Some _ _ (sym found ∙ is)) (omega (arith, enough));
    }

pub lacks_range : (plan : PlanValue) (bound : BoundValue) (own : Facts) → slice_get plan.facts.instruments bound.instrument ≡ Some own
    → bound.plan ≡ print_of plan → in_bounds own (negsuc 0) ≡ false → LacksWayBack plan bound ValueRange
lacks_range plan bound own found own_plan out =
    (own_plan, subst (λ (o : Option Facts). IsSomeAnd o (λ (g : Facts). in_bounds g (negsuc 0) ≡ false)) (sym found) out)

-- what is asked of the lock, by the need of two recordings
pub has_way : (p : ProviderValue) (seat : RecorderValue) (need : Need) (own : Facts) (left : ℕ) → slice_get p.plan.facts.instruments need.instrument ≡ Some own
    → need.plan ≡ print_of p.plan → in_bounds own (negsuc 0) ≡ true → left ≡ slice_index own.budgets seat.number - (told_at seat need.instrument).count
    → HasRoomForBoth (TellsNeed p seat need) left → HasWayBack p.plan seat need.instrument
has_way p seat need own left found own_plan ranged is (inl enough) =
    has_way_by_budget p.plan seat need.instrument own found ranged (subst (λ (n : ℕ). 2 ≤ n) is enough)
has_way p seat need own left found own_plan ranged is (inr told) =
    has_way_by_room p.plan seat need.instrument (is_recorder_of p seat) told.room own found ranged (told.told.own own_plan) told.enough

pub told_some : (all : List Told) (i : ℕ) (told : Told) → slice_get all i ≡ Some told → (slice_index_or all i nothing_told).count ≡ told.count
told_some all i told found = ap (λ (t : Told). t.count) (sym (unwrap_or-slice_get all i nothing_told) ∙ ap (λ (o : Option Told). unwrap_or o nothing_told) found)

pub told_none : (all : List Told) (i : ℕ) → slice_get all i ≡ None → (slice_index_or all i nothing_told).count ≡ 0
told_none all i none = ap (λ (t : Told). t.count) (sym (unwrap_or-slice_get all i nothing_told) ∙ ap (λ (o : Option Told). unwrap_or o nothing_told) none)
