-- What an event of a known instrument is answered, by what was told of the instrument before.
use Rattle.std.specs.Prelude.{ℕ, ℤ, ◌+◌, ◌-◌, Bool, not, List, Result, Ok, count_by, length, max}
use Rattle.std.specs.Prelude.{nat_le, nat_lt, slice_index, ◌==◌, if◌then◌else◌}
use Rattle.metric_base.specs.Steps.{◌>>=◌, require}
use Rattle.metric_contents.specs.declared.refusal.Refusal.{Refusal}
use Rattle.metric_contents.specs.declared.refusal.Refusal.TheVariants.{
  UnknownRecorder,
  UnknownReader,
  ValueRange,
  Closed,
  Budget,
  NoSpare,
  SumRange,
}
use Rattle.metric_history.specs.declared.batch.Batch.{Batch}
use Rattle.metric_history.specs.declared.entry.Entry.{Entry}
use Rattle.metric_facts.specs.declared.facts.FactsFields.{FactsFields as Facts}
use Rattle.metric_facts.specs.Facts.{is_delta, in_bounds}
use Rattle.metric_history.specs.Points.{reported}
use Rattle.metric_history.specs.Windows.{window, fits_all}

-- # what a history says of an instrument (profile)
-- Its accepted recordings, each reader's mark and previous time, whether it is closed, and what
-- each recorder, and all of them together, were granted.
pub record Past : Type 0 where
  -- the accepted recordings, oldest first
  pub accepted : List Entry
  -- how many of them each reader's last batch counted, 0 before one
  pub mark : ℕ → ℕ
  -- the greatest time of each reader's batches, or the start
  pub previous : ℕ → ℕ
  pub closed : Bool
  -- how many recordings each recorder was granted beside its budget
  pub granted : ℕ → ℕ
  -- how many were granted to all recorders together
  pub handed : ℕ

-- how many of the recordings a recorder made
abbrev pub spent : List Entry → ℕ → ℕ
spent accepted recorder = count_by (λ (entry : Entry). entry.recorder == recorder) accepted

-- # answer to a recording (profile)
-- Its entry, or the first refusal in the fixed order; a recorder may make as many as its budget and
-- what it was granted.
abbrev pub recorded : Facts → Past → Result (List ℕ) Refusal → ℕ → ℤ → Result Entry Refusal
recorded facts told encoded recorder value =
    require (nat_lt recorder (length facts.budgets)) UnknownRecorder >>= λ _.
    encoded >>= λ set.
    require (in_bounds facts value) ValueRange >>= λ _.
    require (not told.closed) Closed >>= λ _.
    require (nat_lt (spent told.accepted recorder)
    (slice_index facts.budgets recorder + told.granted recorder)) Budget >>= λ _.
    let entry : Entry = record { recorder = recorder; set = set; value = value } in
    require (fits_all facts told.mark told.accepted entry) SumRange >>= λ _.
    Ok entry

-- the recordings that a reader's next batch covers
abbrev pub covered : Facts → Past → ℕ → List Entry
covered facts told reader = window (is_delta facts reader) (told.mark reader) told.accepted

-- # batch (SDK, collect) [batch, collected]
-- What a collection reports.
abbrev pub batch : Facts → ℕ → Past → ℕ → ℕ → Batch
batch facts start told reader now = record {
  plan = facts.plan;
  reader = reader;
  instrument = facts.instrument;
  from = if is_delta facts reader then told.mark reader else 0;
  mark = length told.accepted;
  start = if is_delta facts reader then told.previous reader else start;
  time = max now (told.previous reader);
  streams = reported facts reader (covered facts told reader);
}

-- a reader's batch, or the refusal
abbrev pub collected : Facts → ℕ → Past → ℕ → ℕ → Result Batch Refusal
collected facts start told reader now =
    require (nat_lt reader (length facts.delta)) UnknownReader >>= λ _.
    Ok (batch facts start told reader now)

-- whether a close is done
abbrev pub closing : Past → Result (Unit {0}) Refusal
closing told = require (not told.closed) Closed

-- # answer to a grant (profile)
-- Made where the recorder is known, the instrument open, and no more is asked for than the spare
-- less what was granted; or the first refusal.
abbrev pub granting : Facts → Past → ℕ → ℕ → Result (Unit {0}) Refusal
granting facts told recorder amount =
    require (nat_lt recorder (length facts.budgets)) UnknownRecorder >>= λ _.
    require (not told.closed) Closed >>= λ _.
    require (nat_le amount (facts.spare - told.handed)) NoSpare
