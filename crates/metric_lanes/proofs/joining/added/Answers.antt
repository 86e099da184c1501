-- bucket by bucket
use Rattle.std.proofs.Common.{◌∙◌, ◌<◌, length, arith}
use Rattle.std.specs.Prelude.{max}
use Rattle.std.proofs.lemmas.List.{take_all}
use Rattle.metric_lanes.specs.Joined.{added}
use Rattle.metric_lanes.proofs.AddingLaws.{added_fit, added_long, added_more}
use Rattle.metric_lanes.proofs.joining.added.Goals as goal

pub sum_at-requires : goal.sum_at-requires
sum_at-requires c = added_fit c.args.a.now c.args.b.now c.loop-i.i c.requires (omega arith)

pub loop-i-preserved : goal.loop-i-preserved
loop-i-preserved c =
    let below : c.loop-i.i < max (length c.args.a.now) (length c.args.b.now) = omega arith in
    let more = added_more c.args.a.now c.args.b.now c.loop-i.i below in
    cc (more, c.in_ok-push.ensures.ok, c.sum_at.ensures)

pub returns : goal.returns
returns c =
    c.loop-i.invariant ∙ take_all c.loop-i.i (added c.args.a.now c.args.b.now) (omega (arith, added_long c.args.a.now c.args.b.now))
