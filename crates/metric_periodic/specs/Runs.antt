-- A whole run of a periodic reader.
use Rattle.std.specs.Prelude.{◌≡◌, ℕ, Option}
use Rattle.metric_periodic.specs.Ticks.{moment_of}
use Rattle.metric_periodic.specs.declared.tick.StopCause.{StopCause}
use Rattle.metric_periodic.specs.declared.tick.Tick.{Tick}
use Rattle.metric_periodic.specs.Collections.{Collected, CollectsLast}
use Rattle.metric_export.specs.ExporterCalls.{Calls}
use Rattle.metric_periodic.specs.Exported.{ExportsCollected, IsRetried, ShutsDown, Tally}
use Rattle.metric_periodic.specs.Turns.{Giving, MakesTurns, Progress, stop_of}
use Rattle.metric_seat.specs.Seats.{CollectorValue, ProviderValue}

-- After its turns a run makes the last collection, at the moment of the last tick, calls the
-- exporter for each batch that it gave, lets it try once more what it keeps, and shuts it down. The
-- run was stopped where the ticker's last tick was a stop, for its cause.
pub record IsRun {T E : Type 0}
    (gives : Giving T)
    (p : ProviderValue)
    (calls : Calls E)
    (most : ℕ)
    (start : Progress T E)
    (ticker : T)
    (stopped : Option StopCause)
    (kept : Option CollectorValue)
    (counts : Tally E) : Type 0 where
  pub last : Tick
  pub seat : CollectorValue
  pub after_turns : Tally E
  pub turns : MakesTurns gives p calls most start ticker last seat after_turns
  pub is_stopped : stopped ≡ stop_of last
  pub collected : Collected
  pub collects_at : CollectsLast p (moment_of last) seat kept collected
  pub before_retry : Tally E
  pub exported : ExportsCollected calls.exports after_turns before_retry collected
  pub before_shutdown : Tally E
  pub retried : IsRetried calls.retries before_retry before_shutdown
  pub shut_down : ShutsDown calls.shuts_down before_shutdown counts
