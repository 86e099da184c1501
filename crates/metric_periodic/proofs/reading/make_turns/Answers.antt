use Rattle.std.proofs.Common.{refl, arith, rules}
use Rattle.metric_periodic.proofs.Turning.{no_stop, one_more_turn}
use Rattle.metric_periodic.proofs.reading.make_turns.Goals as goal

pub loop-turn-preserved : goal.loop-turn-preserved
loop-turn-preserved g c = record {
  most = search rules;
  least = search rules;
  turns = one_more_turn _ _ _ c.loop-turn._turn _ _ _ c.loop-turn.invariant.turns
      (record {
        tick = c.next.result;
        gave = c.next.ensures.gives;
        goes_on = no_stop c.next.result c.in_default.not-Stop;
        moment = c.moment-last.ensures;
        collected_at = c.collect_and_export.ensures.collected;
      });
}

pub returns-in-Stop-clause-turns : goal.returns-in-Stop-clause-turns
returns-in-Stop-clause-turns g c = record {
  made = c.loop-turn._turn;
  before = c.loop-turn.ticker;
  moment = c.loop-turn.last;
  turns = c.loop-turn.invariant.turns;
  ends = (omega arith, c.in-Stop.ensures.gives);
}

pub returns-clause-turns : goal.returns-clause-turns
returns-clause-turns g c = record {
  made = c.loop-turn._turn;
  before = c.loop-turn.ticker;
  moment = c.loop-turn.last;
  turns = c.loop-turn.invariant.turns;
  ends = (omega arith, (refl, refl));
}
