use Rattle.metric_lines.specs.Streams.{description_text}
use Rattle.metric_lines.proofs.stream.push_description.Goals as goal

pub returns : goal.returns
unfolding description_text
returns c =
    rw (← c.get.ensures, ← c.as_str.ensures.text, ← c.get-2.ensures, ← c.as_str-2.ensures.text, ← c.get-3.ensures, ← c.as_str-3.ensures, ← c.kind_piece.ensures, ← c.temporality_piece.ensures)
    c.push_pieces.ensures
