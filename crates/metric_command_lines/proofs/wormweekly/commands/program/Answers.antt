-- Each command is added to what was made before it.
use Rattle.metric_command_lines.proofs.wormweekly.commands.program.Goals as goal

pub returns : goal.returns
returns c =
    let replay = c.with_command-program.ensures _ _ c.second.ensures c.replay.ensures.app c.replay.ensures.local in
    let draw = c.with_command-program-2.ensures _ _ replay c.draw.ensures.app c.draw.ensures.local in
    let diff = c.with_command-program-3.ensures _ _ draw c.diff.ensures.app c.diff.ensures.local in
    let report = c.with_command-program-4.ensures _ _ diff c.report.ensures.app c.report.ensures.local in
    let expand = c.with_command-program-5.ensures _ _ report c.expand.ensures.app c.expand.ensures.local in
    let queries = c.with_command-program-6.ensures _ _ expand c.queries.ensures.app c.queries.ensures.local in
    c.with_command.ensures _ _ queries c.bind.ensures.app c.bind.ensures.local
