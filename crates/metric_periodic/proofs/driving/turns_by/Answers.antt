-- one turn more, and why no other comes
use Rattle.std.proofs.Common.{inl, refl}
use Rattle.metric_periodic.proofs.driving.turns_by.Goals as goal

pub returns-in_default : goal.returns-in_default
returns-in_default g c = record {
  made = c.loop-turn._turn;
  mid = c.loop-turn.outlets;
  last = c.loop-turn.now;
  is_asked = c.loop-turn.is_asked;
  each = c.loop-turn.invariant;
  end = inl (refl, rw c.in_default.is at c.moment.ensures);
}
