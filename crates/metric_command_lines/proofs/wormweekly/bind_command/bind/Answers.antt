-- Each option is added.
use Rattle.metric_command_lines.proofs.wormweekly.bind_command.bind.Goals as goal

pub returns-clause-app : goal.returns-clause-app
returns-clause-app c =
    let first = c.with_argument-command.ensures.app _ _ c.over_files-command.ensures.app c.renamed-language.ensures.rule c.renamed-language.ensures.own in
    let second = c.with_argument-command-2.ensures.app _ _ first c.renamed.ensures.rule c.renamed.ensures.own in
    c.with_argument.ensures.app _ _ second c.output.ensures.rule c.output.ensures.own
