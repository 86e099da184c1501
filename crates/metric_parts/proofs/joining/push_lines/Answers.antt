use Rattle.metric_parts.proofs.JoinedLines.{all_pushed}
use Rattle.metric_parts.proofs.joining.push_lines.Goals as goal

pub returns : goal.returns
returns c = all_pushed _ _ c.args.lines.now c.loop-line.line-index c.loop-line-test.false c.loop-line.invariant
