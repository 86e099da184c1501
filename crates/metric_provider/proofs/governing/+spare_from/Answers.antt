use Rattle.std.proofs.Common.{◌∙◌, ◌+◌, IfOk}
use Rattle.std.proofs.lemmas.Result.{IfOk-weaker}
use Rattle.metric_provider.specs.Steps.{Spares}
use Rattle.metric_provider.proofs.StepLaws.{spares_more, spares_none}
use Rattle.metric_provider.proofs.governing.+spare_from.Goals as goal

pub returns-then-at-count-clause-spares : goal.returns-then-at-count-clause-spares
returns-then-at-count-clause-spares g t c =
    spares_none g.L.Row.does c.args.diary.now c.inside.new.diary c.args.at (g.L.Row.count c.args.row.now) c.args.facts.now c.args.left (c.if-at-count.true ∙ c.count.ensures) c.inside.ensures

pub returns-clause-spares : goal.returns-clause-spares
returns-clause-spares g t c =
    let count = g.L.Row.count c.args.row.now in
    let own = c.args.facts.now in
    IfOk-weaker c.spare_from-answer.result
    (λ rest. Spares g.L.Row.does c.granted.new.diary (c.args.at + 1) count own c.saturating_sub-left.result rest c.spare_from-answer.new.diary)
    (λ rest. Spares g.L.Row.does c.args.diary.now c.args.at count own c.args.left rest c.unlock-2.new.diary)
    (λ rest more. spares_more g.L.Row.does c.args.diary.now c.lock-held.new.diary c.granted.new.diary c.spare_from-answer.new.diary c.unlock-2.new.diary c.args.at count own c.args.left c.in-Ok.granted
    c.saturating_sub-left.result rest c.lock-held.result c.lock-held.ensures c.in-Ok.ensures.does c.saturating_sub-left.ensures more c.unlock-2.ensures)
    c.spare_from-answer.ensures.spares
