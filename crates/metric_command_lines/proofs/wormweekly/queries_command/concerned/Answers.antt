-- Each option is added.
use Rattle.metric_command_lines.proofs.wormweekly.queries_command.concerned.Goals as goal

pub returns-clause-app : goal.returns-clause-app
returns-clause-app c =
    let first = c.with_argument-command.ensures.app _ _ c.over_pair-command.ensures.app c.flag.ensures.rule c.flag.ensures.own in
    let second = c.with_argument-command-2.ensures.app _ _ first c.texts.ensures.rule c.texts.ensures.own in
    c.with_argument.ensures.app _ _ second c.texts-2.ensures.rule c.texts-2.ensures.own
