-- Each option is added.
use Rattle.metric_command_lines.proofs.wormweekly.report_command.report.Goals as goal

pub returns-clause-app : goal.returns-clause-app
returns-clause-app c =
    let first = c.with_argument-command.ensures.app _ _ c.over_change-command.ensures.app c.texts.ensures.rule c.texts.ensures.own in
    let second = c.with_argument-command-2.ensures.app _ _ first c.texts-2.ensures.rule c.texts-2.ensures.own in
    let third = c.with_argument-command-3.ensures.app _ _ second c.number.ensures.rule c.number.ensures.own in
    let fourth = c.with_argument.ensures.app _ _ third c.number-instances.ensures.rule c.number-instances.ensures.own in
    c.with_queries.ensures.app _ fourth
