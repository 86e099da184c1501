use Rattle.std.proofs.Common.{◌∙◌, ◌+◌}
use Rattle.std.proofs.lemmas.Result.{IfOk-weaker}
use Rattle.metric_history.specs.declared.batch.Batch.{Batch}
use Rattle.metric_provider.specs.Steps.{Collects, IsBatchOf}
use Rattle.metric_provider.proofs.StepLaws.{collects_more, collects_none, on_err, quiet_inside, quiet_more}
use Rattle.metric_provider.proofs.collecting.+collect_from.Goals as goal

pub returns-then-at-count-clause-collects : goal.returns-then-at-count-clause-collects
returns-then-at-count-clause-collects g t c =
    let count = g.L.Row.count c.args.row.now in
    let question = c.args.question.now in
    IfOk-weaker c.told.result (IsBatchOf c.args.before) (λ (batch : Batch). Collects g.L.Row.does c.args.diary.now c.args.at count question.facts.now question.asked c.args.before batch c.inside.new.diary)
    (λ (batch : Batch) is. collects_none g.L.Row.does c.args.diary.now c.inside.new.diary c.args.at count question.facts.now question.asked c.args.before batch (c.if-at-count.true ∙ c.count.ensures) c.inside.ensures is)
    c.told.ensures.batch

pub returns-then-at-count-clause-nothing : goal.returns-then-at-count-clause-nothing
returns-then-at-count-clause-nothing g t c = on_err c.told.result _ (quiet_inside g.L.Row.does c.args.diary.now c.inside.new.diary c.args.at c.args.question.now.facts.now c.args.question.now.asked c.inside.ensures)

pub returns-in-Err-clause-nothing : goal.returns-in-Err-clause-nothing
returns-in-Err-clause-nothing g t c =
    quiet_more g.L.Row.does c.args.diary.now c.lock-held.new.diary c.report-own.new.diary c.inside-in-Err.new.diary c.unlock.new.diary c.args.at c.args.question.now.facts.now c.args.question.now.asked
    c.lock-held.result c.report-own.result c.lock-held.ensures c.report-own.ensures.does
    (quiet_inside g.L.Row.does c.report-own.new.diary c.inside-in-Err.new.diary (c.args.at + 1) c.args.question.now.facts.now c.args.question.now.asked c.inside-in-Err.ensures) c.unlock.ensures

pub returns-in-Err-collect_from-clause-nothing : goal.returns-in-Err-collect_from-clause-nothing
returns-in-Err-collect_from-clause-nothing g t c =
    quiet_more g.L.Row.does c.args.diary.now c.lock-held.new.diary c.report-own.new.diary c.collect_from.new.diary c.unlock-in-Err-collect_from.new.diary c.args.at c.args.question.now.facts.now c.args.question.now.asked
    c.lock-held.result c.report-own.result c.lock-held.ensures c.report-own.ensures.does
    c.in-Err-collect_from.ensures.nothing c.unlock-in-Err-collect_from.ensures

pub returns-clause-collects : goal.returns-clause-collects
returns-clause-collects g t c =
    collects_more g.L.Row.does c.args.diary.now c.lock-held.new.diary c.report-own.new.diary c.collect_from.new.diary c.advance.new.diary c.unlock-2.new.diary c.args.at (g.L.Row.count c.args.row.now)
    c.args.question.now.facts.now c.args.question.now.asked c.args.before c.report-own.result c.in-Ok.all c.in-Ok-collect_from.batch c.lock-held.result c.advance.new.held
    c.lock-held.ensures c.report-own.ensures.does c.in-Ok.ensures.joins c.in-Ok-collect_from.ensures.collects c.advance.ensures c.unlock-2.ensures
