-- Both options are added.
use Rattle.metric_command_lines.proofs.wormweekly.commands.with_queries.Goals as goal

pub returns-clause-app : goal.returns-clause-app
returns-clause-app c = λ before. λ is_before.
    let first = c.with_argument-command.ensures.app _ _ is_before c.texts.ensures.rule c.texts.ensures.own in
    c.with_argument.ensures.app _ _ first c.texts-2.ensures.rule c.texts-2.ensures.own
