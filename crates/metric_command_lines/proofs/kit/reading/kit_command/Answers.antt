-- Both commands with flags are added to the others.
use Rattle.metric_command_lines.proofs.kit.reading.kit_command.Goals as goal

pub returns : goal.returns
returns c =
    let replay = c.with_command-program.ensures _ _ c.plain_command.ensures c.replay.ensures.app c.replay.ensures.local in
    c.with_command.ensures _ _ replay c.threads.ensures.app c.threads.ensures.local
