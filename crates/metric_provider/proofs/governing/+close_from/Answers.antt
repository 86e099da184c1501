use Rattle.std.proofs.Common.{◌∙◌}
use Rattle.metric_provider.proofs.StepLaws.{closes_more, closes_none}
use Rattle.metric_provider.proofs.governing.+close_from.Goals as goal

pub returns-then-at-count-clause-closes : goal.returns-then-at-count-clause-closes
returns-then-at-count-clause-closes g t c =
    closes_none g.L.Row.does c.args.diary.now c.inside.new.diary c.args.at (g.L.Row.count c.args.row.now) (c.if-at-count.true ∙ c.count.ensures) c.inside.ensures

pub returns-clause-closes : goal.returns-clause-closes
returns-clause-closes g t c =
    closes_more g.L.Row.does c.args.diary.now c.lock-held.new.diary c.close-answer.new.diary c.close_from-same.new.diary c.unlock.new.diary c.args.at (g.L.Row.count c.args.row.now)
    c.lock-held.result c.close-answer.new.held c.close-answer.result c.close_from-same.result
    c.lock-held.ensures c.close-answer.ensures.does c.close_from-same.ensures.closes c.unlock.ensures
