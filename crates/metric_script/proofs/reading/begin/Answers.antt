-- the first line that is not passed over is the start
use Rattle.std.proofs.Common.{sym}
use Rattle.metric_script.proofs.PlaceLaws.{begun_passed, begun_start, begun_bad, begun_end}
use Rattle.metric_script.proofs.reading.begin.Goals as goal

pub returns-in-Some : goal.returns-in-Some
returns-in-Some c =
    sym (begun_start c.args.lines.now c.lines_from.result.now c.loop-place.place c.in-Some.start _ _ c.loop-place-test.true
    (sym c.if-not-is_passed_over.ensures) (sym c.in-Some.ensures) c.lines_from.ensures c.loop-place.invariant)

pub returns-in-None : goal.returns-in-None
returns-in-None c =
    sym (begun_bad c.args.lines.now c.lines_from-in-None.result.now c.loop-place.place _ _ c.loop-place-test.true
    (sym c.if-not-is_passed_over.ensures) (sym c.in-None.ensures) c.lines_from-in-None.ensures c.loop-place.invariant)

pub loop-place-preserved : goal.loop-place-preserved
loop-place-preserved c =
    begun_passed c.args.lines.now c.loop-place.place _ _ c.loop-place-test.true (sym c.if-not-is_passed_over.ensures) c.loop-place.invariant

pub returns : goal.returns
returns c = sym (begun_end c.args.lines.now c.lines_from-2.result.now c.loop-place.place _ c.loop-place-test.false c.lines_from-2.ensures c.loop-place.invariant)
