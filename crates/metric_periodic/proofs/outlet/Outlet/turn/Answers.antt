-- a turn, and the moment of the next one
use Rattle.std.proofs.Common.{refl}
use Rattle.metric_periodic.proofs.outlet.Outlet.turn.Goals as goal

pub returns : goal.returns
returns g c = rw (← c.self.view_is) (record {
  turn = c.make_turn.ensures;
  period = refl;
  due = rw (c.due_after-self-inside.ensures, c.moment.ensures) refl;
})
