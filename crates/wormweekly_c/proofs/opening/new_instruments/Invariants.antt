-- an instrument for each number so far
use Rattle.std.proofs.Common.{◌≡◌, ℕ, Option, Some, length}
use Rattle.std.specs.Prelude.{slice_get}
use Rattle.wormweekly_c.specs.Opening.{HoldsNew, held_in}
use Rattle.wormweekly_c.specs.declared.held.Held.{Held}
use Rattle.wormweekly_c.proofs.opening.new_instruments.Given as goal

abbrev pub invariant-loop-number : goal.invariant-loop-number
invariant-loop-number l = record {
  long : length (held_in l.all.items) ≡ l.number;
  each : (i : ℕ) (one : Option Held) → slice_get (held_in l.all.items) i ≡ Some one → HoldsNew l.plan l.start l.run i one;
}
