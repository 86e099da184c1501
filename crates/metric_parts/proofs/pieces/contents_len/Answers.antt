use Rattle.std.proofs.Common.{◌∙◌, ap, length, not}
use Rattle.std.specs.Prelude.{unwrap_or}
use Rattle.metric_parts.specs.Input.{is_content}
use Rattle.metric_parts.proofs.Lines.{position_or_length, prefix_len-values, position_within}
use Rattle.metric_parts.proofs.pieces.contents_len.Goals as goal

pub returns-clause-len : goal.returns-clause-len
returns-clause-len c =
    c.unwrap_or.ensures ∙ ap (λ place. unwrap_or place (length c.args.lines.now)) c.first_stray.ensures
    ∙ position_or_length (λ line. not (is_content line.now)) c.args.lines.now ∙ prefix_len-values is_content c.args.lines.now

pub returns-clause-within : goal.returns-clause-within
returns-clause-within c =
    position_within (λ line. not (is_content line.now)) c.args.lines.now c.unwrap_or.result
    (c.unwrap_or.ensures ∙ ap (λ place. unwrap_or place (length c.args.lines.now)) c.first_stray.ensures)
