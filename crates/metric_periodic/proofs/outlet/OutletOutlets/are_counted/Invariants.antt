-- each instrument so far is counted
use Rattle.std.proofs.Common.{◌≡◌, ℕ, ◌<◌, Some}
use Rattle.std.specs.List.{slice_get}
use Rattle.std.specs.Option.{option_map}
use Rattle.metric_seat.specs.declared.total.Total.{Total}
use Rattle.metric_slot.specs.declared.seen.Seen.{Seen}
use Rattle.metric_periodic.proofs.outlet.OutletOutlets.are_counted.Given as goal

abbrev pub invariant-loop-instrument : goal.invariant-loop-instrument
invariant-loop-instrument g l =
    (instrument : ℕ) (total : Total) → instrument < l.instrument → slice_get l.totals instrument ≡ Some total
    → option_map (λ (seen : Seen). seen.mark) (slice_get l.self.showing.seat.seen instrument) ≡ Some total.count
