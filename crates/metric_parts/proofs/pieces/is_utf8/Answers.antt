use Rattle.std.proofs.Common.{◌∙◌}
use Rattle.metric_parts.proofs.Lines.{is_ok_is_utf8}
use Rattle.metric_parts.proofs.pieces.is_utf8.Goals as goal

pub returns : goal.returns
returns c = c.is_ok.ensures.value ∙ is_ok_is_utf8 _ _ c.from_utf8.result _ c.from_utf8.ensures.cases
