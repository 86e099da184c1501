-- The ticks that a list gives.
use Rattle.std.specs.Prelude.{◌≡◌, ◌≢◌, ℕ, ◌+◌, ◌≤◌, ◌==◌, max, Bool, true, false, if◌then◌else◌, List, []}
use Rattle.std.specs.Prelude.{◌∷◌, Option, Some, None, is_none}
use Rattle.metric_io.specs.Counts.{next_count}
use Rattle.metric_periodic.specs.declared.tick.StopCause.{StopCause}
use Rattle.metric_periodic.specs.declared.tick.StopCause.TheVariants.{Clock, Flag, Ticks}
use Rattle.metric_periodic.specs.declared.tick.Tick.{Tick}
use Rattle.metric_periodic.specs.declared.tick.Tick.TheVariants.{At, Stop, Woken}
use Rattle.metric_periodic.specs.declared.watch.Waited.{Waited}
use Rattle.metric_periodic.specs.declared.watch.Waited.TheVariants as waited

-- the ticks that are left, the moment of the last one that was given,
-- and how often the ticker was asked
pub record TicksLeft : Type 0 where
  pub ticks : List Tick
  pub last : ℕ
  pub asked : ℕ

-- the moment of a tick
abbrev pub moment_of : Tick → ℕ
moment_of (At moment) = moment
moment_of (Woken moment) = moment
moment_of (Stop moment cause) = moment

-- whether a tick was asked for
abbrev pub is_woken : Tick → Bool
is_woken (At moment) = false
is_woken (Woken moment) = true
is_woken (Stop moment cause) = false

-- the first of some ticks, and where there is none the stop at the last moment
abbrev pub first_tick : List Tick → ℕ → Tick
first_tick [] last = Stop last Ticks
first_tick (tick ∷ ticks) last = tick

-- the ticks after the first
abbrev pub later_ticks : List Tick → List Tick
later_ticks [] = []
later_ticks (tick ∷ ticks) = ticks

-- # ticks (SDK, periodic exporting metric reader) [next_tick, after_tick, clock_tick, stop_cause,
-- ClockTicks]
-- Those of a list in order, then the stop at the last moment; those of a clock, at most so many and
-- never of an earlier moment. A stop has its cause: that no tick is left, else that the flag is set,
-- else that the clock cannot be read. Each time that a ticker is asked is counted.
abbrev pub next_tick : TicksLeft → Tick
next_tick left = first_tick left.ticks left.last

-- what is left after it
abbrev pub after_tick : TicksLeft → TicksLeft
after_tick left = record {
  ticks = later_ticks left.ticks;
  last = moment_of (next_tick left);
  asked = next_count left.asked;
}

-- one tick of a list's ticker
abbrev pub ListTicks : TicksLeft → TicksLeft → Tick → Type 0
ListTicks old new tick = (tick ≡ next_tick old) × (new ≡ after_tick old)

-- a clock's ticker: how many nanoseconds it waits for a tick, how many ticks are left at most, the
-- moment of the last one, and how often the ticker was asked
pub record ClockTicksLeft : Type 0 where
  pub period : ℕ
  pub left : ℕ
  pub last : ℕ
  pub asked : ℕ

-- what ended a wait: the flag, a tick that was asked for, or the time
abbrev pub was_set : Waited → Bool
was_set waited.Set = true
was_set waited.Asked = false
was_set waited.Over = false

abbrev pub was_asked : Waited → Bool
was_asked waited.Set = false
was_asked waited.Asked = true
was_asked waited.Over = false

-- why the ticker stops after a wait, where it does: no tick is left, else the flag is set, else the
-- clock has no moment
abbrev pub stop_cause : ℕ → Bool → Option ℕ → Option StopCause
stop_cause left is_set moment =
    if left == 0 then Some Ticks else (if is_set then Some Flag else (if is_none moment then Some Clock else None))

-- the moment that it tells: none is before the last one
abbrev pub moment_told : ℕ → Option ℕ → ℕ
moment_told last None = last
moment_told last (Some moment) = max last moment

-- the tick of a moment, by why the ticker stops and whether it was asked for
abbrev pub tick_by : Option StopCause → Bool → ℕ → Tick
tick_by None false moment = At moment
tick_by None true moment = Woken moment
tick_by (Some cause) asked moment = Stop moment cause

-- the tick after a wait
abbrev pub clock_tick : ClockTicksLeft → Waited → Option ℕ → Tick
clock_tick old ended moment =
    tick_by (stop_cause old.left (was_set ended) moment) (was_asked ended) (moment_told old.last moment)

-- whether a cause is that all ticks were given
abbrev pub is_end : StopCause → Bool
is_end Flag = false
is_end Clock = false
is_end Ticks = true

-- one tick of a clock's ticker: it gives at most so many ticks, none of an earlier moment than
-- the last, and then stops for good, which is the cause where no tick was left
abbrev pub ClockTicks : ClockTicksLeft → ClockTicksLeft → Tick → Type 0
ClockTicks old new (At moment) =
    (old.last ≤ moment)
    × (new ≡ record old { left = new.left; last = moment; asked = next_count old.asked })
    × (old.left ≡ new.left + 1)
ClockTicks old new (Woken moment) =
    (old.last ≤ moment)
    × (new ≡ record old { left = new.left; last = moment; asked = next_count old.asked })
    × (old.left ≡ new.left + 1)
ClockTicks old new (Stop moment cause) =
    (old.last ≤ moment)
    × (is_end cause ≡ (old.left == 0))
    × (new ≡ record old { left = 0; last = moment; asked = next_count old.asked })

-- One tick by what ended a wait for so many nanoseconds, and by what the clock then tells: unless no
-- tick is left, the ticker waits for its period.
pub record WatchTicks (waits : ℕ → Waited → Type 0) (reads : Option ℕ → Type 0)
    (old new : ClockTicksLeft) (tick : Tick) : Type 0 where
  pub ended : Waited
  pub moment : Option ℕ
  pub waited : old.left ≢ 0 → waits old.period ended
  pub read : reads moment
  pub gives : tick ≡ clock_tick old ended moment
  pub ticks : ClockTicks old new tick
