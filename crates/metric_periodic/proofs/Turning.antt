-- The turns of a run, one after the other.
use Rattle.std.proofs.Common.{◌≡◌, ℕ, ◌+◌, None, refl, add-one}
use Rattle.metric_export.specs.ExporterCalls.{Calls}
use Rattle.metric_seat.specs.Seats.{ProviderValue}
use Rattle.metric_periodic.specs.Turns.{AreTurns, Giving, IsTurn, Progress, stop_of}
use Rattle.metric_periodic.specs.declared.tick.StopCause.{StopCause}
use Rattle.metric_periodic.specs.declared.tick.Tick.{Tick}
use Rattle.metric_periodic.specs.declared.tick.Tick.TheVariants.{At, Stop, Woken}

-- one turn more
pub one_more_turn : {T E : Type 0} (gives : Giving T) (p : ProviderValue) (calls : Calls E) (made : ℕ)
    (start mid new : Progress T E) → AreTurns gives p calls made start mid → IsTurn gives p calls mid new
    → AreTurns gives p calls (made + 1) start new
one_more_turn gives p calls made start mid new turns turn = rw add-one (mid, (turns, turn))

-- a tick that is no stop does not stop
pub no_stop : (tick : Tick) → ((moment : ℕ) (cause : StopCause) → tick ≡ Stop moment cause → ⊥) → stop_of tick ≡ None
no_stop (At moment) other = refl
no_stop (Woken moment) other = refl
no_stop (Stop moment cause) other = absurd (other moment cause refl)
