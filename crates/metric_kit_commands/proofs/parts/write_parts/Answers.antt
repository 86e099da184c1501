use Rattle.std.proofs.Common.{◌∙◌}
use Rattle.metric_kit_commands.proofs.PartLaws.{all_parts, next_part, prefix_of_all, prefix_of_next}
use Rattle.metric_kit_commands.proofs.parts.write_parts.Goals as goal

pub returns-in_err-write_part-clause-prefix : goal.returns-in_err-write_part-clause-prefix
returns-in_err-write_part-clause-prefix g c =
    prefix_of_next (g.P.PartWriter.text c.args.writer.now) _ (g.W.Sink.contents c.loop-number.sink) _ c.args.parts.now c.loop-number.number c.index-parts-number.result
    c.loop-number-test.true c.index-parts-number.is c.loop-number.invariant.written c.write_part.ensures.prefix

pub loop-number-preserved : goal.loop-number-preserved
loop-number-preserved g c = record {
  written = next_part (g.P.PartWriter.text c.args.writer.now) _ (g.W.Sink.contents c.loop-number.sink) _ c.args.parts.now c.loop-number.number c.index-parts-number.result
      c.loop-number-test.true c.index-parts-number.is c.loop-number.invariant.written c.in_ok-write_part.ensures.ok;
  failures = c.in_ok-write_part.ensures.counted ∙ c.loop-number.invariant.failures;
}

pub returns-clause-ok : goal.returns-clause-ok
returns-clause-ok g c =
    all_parts (g.P.PartWriter.text c.args.writer.now) _ _ c.args.parts.now c.loop-number.number c.loop-number-test.false c.loop-number.invariant.written

pub returns-clause-prefix : goal.returns-clause-prefix
returns-clause-prefix g c = prefix_of_all (g.P.PartWriter.text c.args.writer.now) _ _ c.args.parts.now c.loop-number.number c.loop-number.invariant.written
