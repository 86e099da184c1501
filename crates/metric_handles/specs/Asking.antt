-- A seat that asks for more before its budget ends.
use Rattle.std.specs.Prelude.{◌≡◌, ℕ, ◌-◌, Bool, false, ◌||◌, List, Option, Some, None, Result, Ok}
use Rattle.std.specs.Prelude.{Err, max, min, nat_le, nat_lt, length, replicate, slice_get, slice_set}
use Rattle.std.specs.Prelude.{MatchBool}
use Rattle.metric_contents.specs.declared.refusal.Refusal.{Refusal}
use Rattle.metric_contents.specs.declared.refusal.Refusal.TheVariants.{NoSpare}
use Rattle.metric_plan.specs.Plans.{PlanValue}
use Rattle.metric_provider.specs.Granting.{AnswersAsking}
use Rattle.metric_provider.specs.Rooms.{AnswersRoom, AnswersSpare}
use Rattle.metric_seat.specs.Recordings.{told_at}
use Rattle.metric_seat.specs.Seats.{ProviderValue, RecorderValue, is_recorder_of}
use Rattle.metric_handles.specs.Counts.{more}
use Rattle.metric_handles.specs.declared.spares.Found.{Found}

-- what is known of room: how many recordings are asked for at once, up to how many of each
-- instrument there is room, and whether fewer were left than were needed
pub record KnownValue : Type 0 where
  pub each : ℕ
  pub limits : List ℕ
  pub wants : Bool

-- a seat with what it knows of room
pub record AskingValue (S : Type 0) : Type 0 where
  pub seat : S
  pub known : KnownValue

-- a seat that knows of no room on the instruments of a plan yet
abbrev pub asking_of : {S : Type 0} → PlanValue → S → ℕ → AskingValue S
asking_of {S} plan seat each = record {
  seat = seat;
  known = record {
    each = each;
    limits = replicate (length plan.facts.contents.instruments) 0;
    wants = false;
  };
}

-- # room that is looked for (profile) [FindsRoom, AsksMore, TakesRest]
-- The room that is told, where it is enough. Else more is asked for, at least what is missing, and
-- where fewer are left, all that is left.
abbrev pub EndsRest : (ℕ → Result (Unit {0}) Refusal → Type 0) → ℕ → ℕ → ℕ → Found
    → Result (Unit {0}) Refusal → Type 0
EndsRest grants room rest needed found (Ok done) =
    found ≡ record { room = more room rest; wants = nat_lt (more room rest) needed }
EndsRest grants room rest needed found (Err other) =
    found ≡ record { room = room; wants = false }

-- what becomes of what is left, where that could be told
abbrev pub RestIs : (ℕ → Result (Unit {0}) Refusal → Type 0) → ℕ → ℕ → ℕ → Found
    → Result ℕ Refusal → Type 0
RestIs grants room amount needed found (Ok left) =
    (answer : Result (Unit {0}) Refusal) × (grants (min left amount) answer
    × EndsRest grants room (min left amount) needed found answer)
RestIs grants room amount needed found (Err other) =
    found ≡ record { room = room; wants = false }

-- what is left is told, and asked for
pub record TakesRest (left : Result ℕ Refusal → Type 0)
    (grants : ℕ → Result (Unit {0}) Refusal → Type 0) (room amount needed : ℕ) (found : Found)
    : Type 0 where
  pub told : Result ℕ Refusal
  pub tells : left told
  pub is : RestIs grants room amount needed found told

-- what becomes of an amount that was asked for
abbrev pub EndsAsking : (Result ℕ Refusal → Type 0) → (ℕ → Result (Unit {0}) Refusal → Type 0) → ℕ
    → ℕ → ℕ → Found → Result (Unit {0}) Refusal → Type 0
EndsAsking left grants room amount needed found (Ok done) =
    found ≡ record { room = more room amount; wants = false }
EndsAsking left grants room amount needed found (Err NoSpare) =
    TakesRest left grants room amount needed found
EndsAsking left grants room amount needed found (Err other) =
    found ≡ record { room = room; wants = false }

-- an amount is asked for
pub record AsksMore (left : Result ℕ Refusal → Type 0)
    (grants : ℕ → Result (Unit {0}) Refusal → Type 0) (room amount needed : ℕ) (found : Found)
    : Type 0 where
  pub answer : Result (Unit {0}) Refusal
  pub asked : grants amount answer
  pub ends : EndsAsking left grants room amount needed found answer

-- what becomes of the room that is told
abbrev pub RoomIs : (Result ℕ Refusal → Type 0) → (ℕ → Result (Unit {0}) Refusal → Type 0) → ℕ → ℕ
    → Found → Result ℕ Refusal → Type 0
RoomIs left grants each needed found (Ok room) =
    MatchBool (nat_le needed room) (found ≡ record { room = room; wants = false })
    (AsksMore left grants room (max each (needed - room)) needed found)
RoomIs left grants each needed found (Err other) = found ≡ record { room = 0; wants = false }

pub record FindsRoom (tells left : Result ℕ Refusal → Type 0)
    (grants : ℕ → Result (Unit {0}) Refusal → Type 0) (each needed : ℕ) (found : Found)
    : Type 0 where
  pub told : Result ℕ Refusal
  pub room : tells told
  pub is : RoomIs left grants each needed found told

-- what is known after so much room was found on an instrument, beside what the seat was told of
abbrev pub with_found : KnownValue → ℕ → ℕ → Found → KnownValue
with_found known instrument told found = record known {
  limits = slice_set known.limits instrument (more told found.room);
  wants = known.wants || found.wants;
}

-- # seat that asks (profile) [MakesRoom, NeedsRoom, AsksFirst, with_found]
-- Where so many recordings more are not known to have room, room is looked for before they are made;
-- with an instrument that the seat does not know nothing is done.
abbrev pub NeedsRoom : (Found → Type 0) → KnownValue → KnownValue → ℕ → ℕ → ℕ → Option ℕ → Type 0
NeedsRoom finds old new instrument told needed None = new ≡ old
NeedsRoom finds old new instrument told needed (Some limit) =
    MatchBool (nat_le (more told needed) limit) (new ≡ old)
    ((found : Found) × (finds found × (new ≡ with_found old instrument told found)))

-- the same of a provider, with a recorder's seat
abbrev pub MakesRoom : ProviderValue → RecorderValue → ℕ → ℕ → KnownValue → KnownValue → Type 0
MakesRoom p own instrument needed old new =
    NeedsRoom
    (FindsRoom
    (AnswersRoom (is_recorder_of p own) (slice_get p.plan.facts.instruments instrument) own.number
    (told_at own instrument))
    (AnswersSpare (slice_get p.plan.facts.instruments instrument))
    (AnswersAsking p own instrument) old.each needed)
    old new instrument (told_at own instrument).count needed (slice_get old.limits instrument)

-- Room is made for what the seat was told before, and the seat is called.
pub record AsksFirst {S : Type 0} (makes : KnownValue → KnownValue → Type 0)
    (calls : S → S → Type 0) (old new : AskingValue S) : Type 0 where
  pub makes_room : makes old.known new.known
  pub called : calls old.seat new.seat
