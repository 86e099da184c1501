-- the set key of attributes in the order of their keys
use Rattle.std.proofs.Common.{◌≡◌, length, rules}
use Rattle.wormweekly_c.specs.Attributes.{attributes_from}
use Rattle.wormweekly_c.proofs.TakenLaws.{prepared_in_order}
use Rattle.wormweekly_c.proofs.prepared.prepare_given.Goals as goal

pub returns-in-Some-clause-answer : goal.returns-in-Some-clause-answer
returns-in-Some-clause-answer c =
    let same : c.get.result.now ≡ c.args.own.now.plan = search rules in
    prepared_in_order c.get.result.now c.args.own.now.plan c.args.instrument (length c.args.given.now) (attributes_from c.args.given.now c.args.texts.now) c.in-Some.set same c.in-Some.ensures
