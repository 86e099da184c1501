-- Each option is added.
use Rattle.metric_command_lines.proofs.wormweekly.commands.headroom.Goals as goal

pub returns-clause-app : goal.returns-clause-app
returns-clause-app c =
    let first = c.with_argument-command.ensures.app _ _ c.over_table-command.ensures.app c.number.ensures.rule c.number.ensures.own in
    let second = c.with_argument-command-2.ensures.app _ _ first c.number-instances.ensures.rule c.number-instances.ensures.own in
    c.with_argument.ensures.app _ _ second c.number-2.ensures.rule c.number-2.ensures.own
