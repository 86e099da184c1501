-- so many turns were made
use Rattle.metric_periodic.specs.Outlets.{AreTurnsOf}
use Rattle.metric_periodic.proofs.driving.turns_by.Given as goal

abbrev pub invariant-loop-turn : goal.invariant-loop-turn
invariant-loop-turn g l =
    AreTurnsOf (g.O.Outlets.turns l.provider) (g.W.Watch.waits l.watch) (g.W.Watch.reads l.watch) l._turn l.fn.outlets l.outlets l.now l.is_asked
