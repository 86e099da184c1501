-- Each option is added.
use Rattle.metric_command_lines.proofs.wormweekly.diff_command.denied.Goals as goal

pub returns-clause-app : goal.returns-clause-app
returns-clause-app c =
    let first = c.with_argument-command.ensures.app _ _ c.compared-command.ensures.app c.text-certificate.ensures.rule c.text-certificate.ensures.own in
    let second = c.with_argument-command-2.ensures.app _ _ first c.text.ensures.rule c.text.ensures.own in
    let third = c.with_argument-command-3.ensures.app _ _ second c.texts.ensures.rule c.texts.ensures.own in
    c.with_argument.ensures.app _ _ third c.texts-2.ensures.rule c.texts-2.ensures.own
