use Rattle.std.proofs.Common.{arith}
use Rattle.metric_wire.proofs.Varints.{digit_written, last_written}
use Rattle.metric_wire.proofs.varint.push_varint.Goals as goal

pub loop-rest-preserved : goal.loop-rest-preserved
loop-rest-preserved c =
    digit_written c.args.out.now.items c.loop-rest.out.items c.push.new.self.items c.args.number c.loop-rest.rest c.in_ok-push.ensures.items
    c.loop-rest.invariant (omega arith) (omega arith)

pub returns : goal.returns
returns c =
    last_written c.args.out.now.items c.loop-rest.out.items c.push-2.new.self.items c.args.number c.loop-rest.rest c.in_ok-push-2.ensures.items
    c.loop-rest.invariant (omega arith)
