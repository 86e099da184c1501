-- Each command is added to what was made before it.
use Rattle.metric_command_lines.proofs.kit.reading.plain_command.Goals as goal

pub returns : goal.returns
returns c =
    let make = c.with_command-program.ensures _ _ c.new.ensures.app c.new-2.ensures.app c.new-2.ensures.local in
    let check = c.with_command-program-2.ensures _ _ make c.new-3.ensures.app c.new-3.ensures.local in
    c.with_command.ensures _ _ check c.new-4.ensures.app c.new-4.ensures.local
