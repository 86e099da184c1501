-- Room for a job of several recordings.
use Rattle.std.specs.Prelude.{◌≡◌, ◌≢◌, ◌<◌, ◌≤◌, ◌==◌, ◌⊎◌, ℕ, All, List, Some, Result, Ok, Err}
use Rattle.std.specs.Prelude.{slice_get, sum_by, take, if◌then◌else◌}
use Rattle.metric_contents.specs.declared.refusal.Refusal.{Refusal}
use Rattle.metric_contents.specs.declared.refusal.Refusal.TheVariants.{Stranger, Budget}
use Rattle.metric_plan.specs.Plans.{print_of}
use Rattle.metric_provider.specs.Rooms.{AnswersRoom}
use Rattle.metric_seat.specs.Recordings.{told_at}
use Rattle.metric_seat.specs.Seats.{ProviderValue, RecorderValue, is_recorder_of}
use Rattle.metric_seat.specs.declared.fault.SetsFault.{SetsFault}
use Rattle.metric_handles.specs.declared.jobs.Need.{Need}

-- how many recordings a job makes on the instrument of a number: the sum of its needs of it
abbrev pub needed_in : List Need → ℕ → ℕ
needed_in job instrument =
    sum_by (λ (need : Need). if need.instrument == instrument then need.count else 0) job

-- What a need is told of a recorder's room: of another plan it is a stranger.
pub record TellsNeed (p : ProviderValue) (seat : RecorderValue) (need : Need)
    (result : Result ℕ Refusal) : Type 0 where
  pub strange : need.plan ≢ print_of p.plan → result ≡ Err Stranger
  pub own : need.plan ≡ print_of p.plan
      → AnswersRoom (is_recorder_of p seat) (slice_get p.plan.facts.instruments need.instrument)
      seat.number (told_at seat need.instrument) result

-- # room for a job (profile) [HasRoomFor, LacksRoomAt, needed_in]
-- For each of its needs the room that is told is enough for all that the job makes on that
-- instrument; or one is the first of which it is not, or of which none is told.
pub record HasRoomFor (tells : Need → Result ℕ Refusal → Type 0) (job : List Need) (need : Need)
    : Type 0 where
  pub room : ℕ
  pub told : tells need (Ok room)
  pub enough : needed_in job need.instrument ≤ room

pub record IsTooSmall (tells : Need → Result ℕ Refusal → Type 0) (job : List Need) (need : Need)
    (refusal : Refusal) : Type 0 where
  pub room : ℕ
  pub told : tells need (Ok room)
  pub small : room < needed_in job need.instrument
  pub budget : refusal ≡ Budget

abbrev pub LacksRoom : (Need → Result ℕ Refusal → Type 0) → List Need → Need → Refusal → Type 0
LacksRoom tells job need refusal =
    tells need (Err refusal) ⊎ IsTooSmall tells job need refusal

pub record LacksRoomAt (tells : Need → Result ℕ Refusal → Type 0) (job : List Need)
    (fault : SetsFault) : Type 0 where
  pub before : All (HasRoomFor tells job) (take fault.place job)
  pub need : Need
  pub found : slice_get job fault.place ≡ Some need
  pub why : LacksRoom tells job need fault.refusal
