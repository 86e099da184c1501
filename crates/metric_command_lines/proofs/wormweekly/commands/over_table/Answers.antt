-- Both options of a table are added.
use Rattle.metric_command_lines.proofs.wormweekly.commands.over_table.Goals as goal

pub returns-clause-app : goal.returns-clause-app
returns-clause-app c =
    let first = c.with_argument-command.ensures.app _ _ c.over_pair-command.ensures.app c.flag.ensures.rule c.flag.ensures.own in
    c.with_argument.ensures.app _ _ first c.number.ensures.rule c.number.ensures.own
