-- Each option is added.
use Rattle.metric_command_lines.proofs.wormweekly.diff_command.diff.Goals as goal

pub returns-clause-app : goal.returns-clause-app
returns-clause-app c =
    let first = c.with_argument.ensures.app _ _ c.denied-command.ensures.app c.flag.ensures.rule c.flag.ensures.own in
    c.with_queries.ensures.app _ first
