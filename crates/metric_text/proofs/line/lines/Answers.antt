-- one more line
use Rattle.std.proofs.Common.{◌<◌, length, arith}
use Rattle.std.proofs.lemmas.Bool.Decides.{nat_tests}
use Rattle.metric_text.proofs.Splits.{lines_more, line_in-shorter}
use Rattle.metric_text.proofs.line.lines.Goals as goal

pub loop-rest-smaller : goal.loop-rest-smaller
loop-rest-smaller c =
    let some : 0 < length c.loop-rest.rest.now = (let test = c.loop-rest-test.true in let is = c.is_empty.ensures in grind (arith, nat_tests)) in
    line_in-shorter c.loop-rest.rest.now c.line_at.result.1.now some c.line_at.ensures.rest

pub loop-rest-preserved : goal.loop-rest-preserved
loop-rest-preserved c =
    let some : 0 < length c.loop-rest.rest.now = (let test = c.loop-rest-test.true in let is = c.is_empty.ensures in grind (arith, nat_tests)) in
    lines_more c.loop-rest.lines.items c.push.new.self.items c.line_at.result.0 c.loop-rest.rest.now c.line_at.result.1.now c.args.bytes.now
    c.in_ok-push.ensures.items some c.line_at.ensures.line c.line_at.ensures.rest c.loop-rest.invariant
