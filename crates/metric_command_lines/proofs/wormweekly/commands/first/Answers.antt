-- Each command is added to what was made before it.
use Rattle.metric_command_lines.proofs.wormweekly.commands.first.Goals as goal

pub returns : goal.returns
returns c =
    let lint = c.with_command-program.ensures _ _ c.bare.ensures c.lint.ensures.app c.lint.ensures.local in
    let show = c.with_command-program-2.ensures _ _ lint c.show.ensures.app c.show.ensures.local in
    c.with_command.ensures _ _ show c.headroom.ensures.app c.headroom.ensures.local
