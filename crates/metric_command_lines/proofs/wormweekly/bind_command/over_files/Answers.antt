-- Both files are added to the bare command.
use Rattle.metric_command_lines.proofs.wormweekly.bind_command.over_files.Goals as goal

pub returns-clause-app : goal.returns-clause-app
returns-clause-app c =
    let first = c.with_argument-command.ensures.app _ _ c.named.ensures.app c.file.ensures.rule c.file.ensures.own in
    c.with_argument.ensures.app _ _ first c.file-2.ensures.rule c.file-2.ensures.own
