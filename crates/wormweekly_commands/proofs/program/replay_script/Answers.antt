-- The replay of the parts, with its status.
use Rattle.std.proofs.Common.{refl}
use Rattle.wormweekly_commands.proofs.program.replay_script.Goals as goal

pub returns-in-Ok : goal.returns-in-Ok
returns-in-Ok g c = record { status = refl; ends = c.in-Ok.ensures }

pub returns-in-Err : goal.returns-in-Err
returns-in-Err g c = record { status = tt; ends = c.in-Err.ensures }
