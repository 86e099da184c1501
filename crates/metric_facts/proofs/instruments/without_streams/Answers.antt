-- one instrument more
use Rattle.std.proofs.Common.{◌+◌, ◌++◌, [], List, drop, ap, ◌∙◌}
use Rattle.metric_facts.specs.declared.facts.FactsFields.{FactsFields as Facts}
use Rattle.metric_facts.specs.Facts.{facts_from}
use Rattle.metric_facts.proofs.FactsLaws.{instruments_more}
use Rattle.metric_facts.proofs.instruments.without_streams.Goals as goal

pub loop-number-preserved : goal.loop-number-preserved
loop-number-preserved c =
    let plan = c.args.plan in
    let certified = c.args.certified in
    let recorders = c.args.recorders.now in
    let readers = c.args.readers.now in
    let all = c.args.instruments.now in
    let number = c.loop-number.number in
    ap (λ (done : List Facts). done ++ facts_from plan certified [] recorders readers [] (number + 1) (drop (number + 1) all)) c.in_ok-push.ensures.items
    ∙ instruments_more plan certified [] recorders readers [] number all c.loop-number.all.items (facts_from plan certified [] recorders readers [] 0 all) c.index-instruments-number.result c.in_ok-facts.facts
    c.loop-number-test.true c.index-instruments-number.is c.in_ok-facts.ensures c.loop-number.invariant
