-- the line is the text without control characters
use Rattle.std.proofs.Common.{ap, map, ◌∙◌}
use Rattle.wormweekly_c.specs.Meanings.{in_line}
use Rattle.wormweekly_c.proofs.expecting.line_of.Goals as goal

pub returns : goal.returns
returns c = record {
  words = c.in_ok-text.ensures.words;
  is = c.in_ok-line.ensures ∙ ap (map in_line) (c.as_slice.ensures.value ∙ c.in_ok-text.ensures.is);
}
