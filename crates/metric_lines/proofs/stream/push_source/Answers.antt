use Rattle.metric_lines.specs.Streams.{source_text}
use Rattle.metric_lines.proofs.stream.push_source.Goals as goal

pub returns : goal.returns
unfolding source_text
returns c = rw (← c.as_str.ensures, ← c.as_str-2.ensures, ← c.as_str-3.ensures) c.push_pieces.ensures
