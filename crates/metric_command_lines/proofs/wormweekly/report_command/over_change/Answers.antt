-- Each option is added.
use Rattle.metric_command_lines.proofs.wormweekly.report_command.over_change.Goals as goal

pub returns-clause-app : goal.returns-clause-app
returns-clause-app c =
    let first = c.with_argument-command.ensures.app _ _ c.over_pair-command.ensures.app c.output.ensures.rule c.output.ensures.own in
    let second = c.with_argument-command-2.ensures.app _ _ first c.flag.ensures.rule c.flag.ensures.own in
    let third = c.with_argument-command-3.ensures.app _ _ second c.old-catalogue.ensures.rule c.old-catalogue.ensures.own in
    c.with_argument.ensures.app _ _ third c.old.ensures.rule c.old.ensures.own
