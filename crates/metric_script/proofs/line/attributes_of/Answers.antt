-- an attribute after the other, up to the line's end
use Rattle.std.proofs.Common.{◌≡◌, ℕ, ◌<◌, List, length, Bor, arith}
use Rattle.metric_contents.specs.declared.attributes.OwnedAttr.{OwnedAttr}
use Rattle.std.proofs.lemmas.Bool.Decides.{nat_tests}
use Rattle.metric_script.proofs.AttributeLaws.{attribute_in-shorter, attributes_more, attributes_refused, attributes_all}
use Rattle.metric_script.proofs.line.attributes_of.Goals as goal

pub returns-in_err-attr : goal.returns-in_err-attr
returns-in_err-attr c =
    let some : 0 < length c.loop-rest.rest.now = (let test = c.loop-rest-test.true in let is = c.is_empty.ensures in grind (arith, nat_tests)) in
    attributes_refused (λ (x : OwnedAttr × Bor (List ℕ)). (x.0, x.1.now)) c.in_err-attr.field-0.0 c.from_residual.result c.loop-rest.attrs c.loop-rest.rest.now c.args.bytes.now some c.from_residual.ensures.1 c.in_err-attr.ensures c.loop-rest.invariant

pub loop-rest-smaller : goal.loop-rest-smaller
loop-rest-smaller c = attribute_in-shorter c.loop-rest.rest.now c.in_ok-attr.attr c.in_ok-attr.others.now c.in_ok-attr.ensures

pub loop-rest-preserved : goal.loop-rest-preserved
loop-rest-preserved c =
    attributes_more c.loop-rest.attrs c.push.new.self c.in_ok-attr.attr c.loop-rest.rest.now c.in_ok-attr.others.now c.args.bytes.now
    c.in_ok-attr.ensures c.in_ok-push.ensures.ok c.loop-rest.invariant

pub returns : goal.returns
returns c =
    let end : length c.loop-rest.rest.now ≡ 0 = (let test = c.loop-rest-test.false in let is = c.is_empty.ensures in grind (arith, nat_tests)) in
    attributes_all c.loop-rest.attrs c.loop-rest.rest.now c.args.bytes.now end c.loop-rest.invariant
