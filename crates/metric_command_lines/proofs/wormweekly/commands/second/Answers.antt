-- Each command is added to what was made before it.
use Rattle.metric_command_lines.proofs.wormweekly.commands.second.Goals as goal

pub returns : goal.returns
returns c =
    let make = c.with_command-program.ensures _ _ c.first.ensures c.make.ensures.app c.make.ensures.local in
    c.with_command.ensures _ _ make c.check.ensures.app c.check.ensures.local
