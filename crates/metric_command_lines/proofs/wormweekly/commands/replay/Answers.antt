-- Each argument is added to what was made before.
use Rattle.metric_command_lines.proofs.wormweekly.commands.replay.Goals as goal

pub returns-clause-app : goal.returns-clause-app
returns-clause-app c =
    let first = c.with_argument-command.ensures.app _ _ c.over_pair-command.ensures.app c.file-third.ensures.rule c.file-third.ensures.own in
    let second = c.with_argument-command-2.ensures.app _ _ first c.file.ensures.rule c.file.ensures.own in
    let third = c.with_argument-command-3.ensures.app _ _ second c.flag.ensures.rule c.flag.ensures.own in
    let fourth = c.with_argument-command-4.ensures.app _ _ third c.text.ensures.rule c.text.ensures.own in
    let fifth = c.with_argument-command-5.ensures.app _ _ fourth c.texts.ensures.rule c.texts.ensures.own in
    let sixth = c.with_argument-command-6.ensures.app _ _ fifth c.text-2.ensures.rule c.text-2.ensures.own in
    c.with_argument.ensures.app _ _ sixth c.flag-2.ensures.rule c.flag-2.ensures.own
