-- one more is asked
use Rattle.std.proofs.Common.{ℕ, List, ◌+◌, take, sym, subst}
use Rattle.std.proofs.lemmas.List.{take_all}
use Rattle.metric_provider.specs.Rolling.{TellsLatest}
use Rattle.metric_provider.proofs.RollLaws.{none, one_more}
use Rattle.metric_provider.proofs.timed.latest_of.Goals as goal

pub loop-timed-init : goal.loop-timed-init
loop-timed-init g c = none g.T.Timed.tells

pub loop-timed-preserved : goal.loop-timed-preserved
loop-timed-preserved g c =
    subst (λ (time : ℕ). TellsLatest g.T.Timed.tells (take (c.loop-timed.timed-index + 1) c.args.all.now) time) (sym c.later-latest.ensures)
    (one_more g.T.Timed.tells c.args.all.now c.loop-timed.timed-index c.timed-item.result c.loop-timed-test.true c.timed-item.is c.loop-timed.latest c.latest.result
    c.loop-timed.invariant c.latest.ensures)

pub returns : goal.returns
returns g c =
    subst (λ (all : List g.row.T.Denot). TellsLatest g.T.Timed.tells all c.loop-timed.latest) (take_all c.loop-timed.timed-index c.args.all.now c.loop-timed-test.false)
    c.loop-timed.invariant
