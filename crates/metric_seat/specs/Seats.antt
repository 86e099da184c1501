-- Providers and their seats.
use Rattle.std.specs.Prelude.{ℕ, Bool, ◌&&◌, List, [], length, nat_lt, replicate, slice_index_or}
use Rattle.std.specs.Prelude.{◌==◌, if◌then◌else◌}
use Rattle.metric_history.specs.declared.slip.Slip.{Slip}
use Rattle.metric_plan.specs.Plans.{PlanValue, print_of}
use Rattle.metric_seat.specs.declared.run_id.RunId.{RunId}
use Rattle.metric_slot.specs.declared.seen.Seen.{Seen}
use Rattle.metric_slot.specs.declared.told.Told.{Told}
use Rattle.metric_slot.specs.Sightings.{nothing_seen}

-- the plan, and the run
pub record ProviderValue : Type 0 where
  pub plan : PlanValue
  pub run : RunId

-- the run, the number of the recorder, what it was told of each instrument, and its slips
-- of each, where its book keeps entries
pub record RecorderValue : Type 0 where
  pub run : RunId
  pub number : ℕ
  pub told : List Told
  pub slips : List (List Slip)

-- the run, the number of the reader, and what it has seen of each instrument
pub record CollectorValue : Type 0 where
  pub run : RunId
  pub number : ℕ
  pub seen : List Seen

-- the run of a plan that has this number and started then
abbrev pub run_of : PlanValue → ℕ → ℕ → RunId
run_of plan number start = record { plan = print_of plan; number = number; start = start }

-- # same run (profile)
-- Of one number, of one start, and of plans with one fingerprint.
abbrev pub is_same_run : RunId → RunId → Bool
is_same_run a b = (a.number == b.number) && ((a.start == b.start) && (a.plan == b.plan))

abbrev pub provider_of : PlanValue → RunId → ProviderValue
provider_of plan run = record { plan = plan; run = run }

-- what a recorder without recordings was told
abbrev pub nothing_told : Told
nothing_told = record { count = 0; amount = 0 }

-- a list without slips for each of so many instruments, where slips are kept
abbrev pub no_slips : Bool → ℕ → List (List Slip)
no_slips keeps instruments = if keeps then replicate instruments [] else []

-- the seat of a recorder that was told of nothing, of so many
-- instruments, and whether it keeps slips
abbrev pub new_recorder : Bool → RunId → ℕ → ℕ → RecorderValue
new_recorder keeps run instruments number = record {
  run = run;
  number = number;
  told = replicate instruments nothing_told;
  slips = no_slips keeps instruments;
}

-- the slips of the instrument of a number: none without a list for it
abbrev pub slips_at : RecorderValue → ℕ → List Slip
slips_at seat instrument = slice_index_or seat.slips instrument []

-- the seat of a reader that has seen nothing of a run
abbrev pub new_collector : RunId → ℕ → ℕ → CollectorValue
new_collector run instruments number = record {
  run = run;
  number = number;
  seen = replicate instruments (nothing_seen run.start);
}

-- what it has seen of the instrument of a number: nothing of one that there is not
abbrev pub seen_at : CollectorValue → ℕ → Seen
seen_at seat instrument = slice_index_or seat.seen instrument (nothing_seen seat.run.start)

-- # seat of a provider (profile) [is_recorder_of, is_collector_of]
-- It is of the same run, of a recorder (a reader) of the plan, and made for as many instruments;
-- else it is a stranger.
abbrev pub is_recorder_of : ProviderValue → RecorderValue → Bool
is_recorder_of p seat =
    is_same_run seat.run p.run && (nat_lt seat.number (length p.plan.facts.contents.recorders)
    && (length seat.told == length p.plan.facts.instruments))

-- the same of a reader's seat
abbrev pub is_collector_of : ProviderValue → CollectorValue → Bool
is_collector_of p seat =
    is_same_run seat.run p.run && (nat_lt seat.number (length p.plan.config.readers)
    && (length seat.seen == length p.plan.facts.instruments))
