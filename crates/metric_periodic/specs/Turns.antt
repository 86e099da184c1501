-- A periodic reader, as contracts see it, and its turns.
use Rattle.std.specs.Prelude.{◌≡◌, ◌<◌, ℕ, zero, suc, Option, Some, None}
use Rattle.metric_periodic.specs.declared.tick.StopCause.{StopCause}
use Rattle.metric_periodic.specs.declared.tick.Tick.{Tick}
use Rattle.metric_periodic.specs.declared.tick.Tick.TheVariants.{At, Stop, Woken}
use Rattle.metric_periodic.specs.Collections.{Collected, Collects}
use Rattle.metric_export.specs.ExporterCalls.{Calls}
use Rattle.metric_periodic.specs.Exported.{HandsOnCollected, Tally}
use Rattle.metric_periodic.specs.Ticks.{is_woken, moment_of}
use Rattle.metric_seat.specs.Seats.{CollectorValue, ProviderValue}

-- a reader that was not run: its exporter, and how often it asks its ticker at most
pub record PeriodicValue (E : Type 0) : Type 0 where
  pub exporter : E
  pub turns : ℕ

-- why the ticker stops with a tick, where that is a stop
abbrev pub stop_of : Tick → Option StopCause
stop_of (At moment) = None
stop_of (Woken moment) = None
stop_of (Stop moment cause) = Some cause

-- how far a run has come: its ticker, the moment of the last tick, the seat,
-- and the exporter with the counts
pub record Progress (T E : Type 0) : Type 0 where
  pub ticker : T
  pub moment : ℕ
  pub seat : CollectorValue
  pub counts : Tally E

abbrev pub progress : {T E : Type 0} → T → ℕ → CollectorValue → Tally E → Progress T E
progress ticker moment seat counts =
    record { ticker = ticker; moment = moment; seat = seat; counts = counts }

-- what is said of a tick: the ticker before and after it was asked, and the tick
abbrev pub Giving : Type 0 → Type 1
Giving T = T → T → Tick → Type 0

-- A collection was made at the moment of a tick, the exporter called for each batch that it gave, for
-- what it keeps where the tick was asked for or there was none, and then flushed.
pub record IsCollectedAt {E : Type 0}
    (p : ProviderValue)
    (calls : Calls E)
    (tick : Tick)
    (old new : CollectorValue)
    (before after : Tally E) : Type 0 where
  pub collected : Collected
  pub collects_at : Collects p (moment_of tick) old new collected
  pub exported : HandsOnCollected calls (is_woken tick) before after collected

-- One turn: the ticker gave a tick that is no stop, and a collection was made at its moment.
pub record IsTurn {T E : Type 0}
    (gives : Giving T)
    (p : ProviderValue)
    (calls : Calls E)
    (old new : Progress T E) : Type 0 where
  pub tick : Tick
  pub gave : gives old.ticker new.ticker tick
  pub goes_on : stop_of tick ≡ None
  pub moment : new.moment ≡ moment_of tick
  pub collected_at : IsCollectedAt p calls tick old.seat new.seat old.counts new.counts

-- so many turns, one after the other
abbrev pub AreTurns : {T E : Type 0} → Giving T → ProviderValue → Calls E → ℕ → Progress T E
    → Progress T E → Type 0
AreTurns gives p calls zero old new = new ≡ old
AreTurns {T} {E} gives p calls (suc turns) old new =
    (mid : Progress T E)
    × (AreTurns gives p calls turns old mid × IsTurn gives p calls mid new)

-- How the turns end: all are made and the moment is that of the last tick, or fewer are made
-- and the ticker then gave a stop.
abbrev pub EndsTurns : {T : Type 0} → Giving T → ℕ → ℕ → ℕ → T → T → Tick → Type 0
EndsTurns gives most made moment old new (At last) = (made ≡ most) × ((last ≡ moment) × (new ≡ old))
EndsTurns gives most made moment old new (Woken last) = ⊥
EndsTurns gives most made moment old new (Stop last cause) =
    (made < most) × gives old new (Stop last cause)

-- All turns of a run, from a start on: what they leave of the ticker, the last tick, the seat,
-- and the exporter with the counts.
pub record MakesTurns {T E : Type 0}
    (gives : Giving T)
    (p : ProviderValue)
    (calls : Calls E)
    (most : ℕ)
    (start : Progress T E)
    (ticker : T)
    (last : Tick)
    (seat : CollectorValue)
    (counts : Tally E) : Type 0 where
  pub made : ℕ
  pub before : T
  pub moment : ℕ
  pub turns : AreTurns gives p calls made start (progress before moment seat counts)
  pub ends : EndsTurns gives most made moment before ticker last
