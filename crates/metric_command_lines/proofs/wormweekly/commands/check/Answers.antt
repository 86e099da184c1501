-- Each argument is added to what was made before.
use Rattle.metric_command_lines.proofs.wormweekly.commands.check.Goals as goal

pub returns-clause-app : goal.returns-clause-app
returns-clause-app c =
    let first = c.with_argument-command.ensures.app _ _ c.over_pair-command.ensures.app c.file-certificate.ensures.rule c.file-certificate.ensures.own in
    c.with_argument.ensures.app _ _ first c.flag.ensures.rule c.flag.ensures.own
