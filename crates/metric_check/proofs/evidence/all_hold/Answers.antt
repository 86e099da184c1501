-- one by one
use Rattle.metric_check.proofs.EvidenceLaws.{all_from_each, each_from_all}
use Rattle.metric_check.proofs.evidence.all_hold.Goals as goal

pub returns : goal.returns
returns c =
    let criteria = c.args.criteria.now in
    let meter = c.args.meter.now in
    let instrument = c.args.instrument.now in
    (λ true. all_from_each criteria meter instrument (c.each_holds.ensures.0 true), λ all. c.each_holds.ensures.1 (each_from_all criteria meter instrument all))
