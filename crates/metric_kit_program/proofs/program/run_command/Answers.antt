-- a command that a line names runs as its own contract says
use Rattle.std.proofs.Common.{rules}
use Rattle.metric_kit_program.proofs.program.run_command.Goals as goal

pub returns-in-Make : goal.returns-in-Make
returns-in-Make g c = rw c.in-Make.is (search rules)

pub returns-in-Check : goal.returns-in-Check
returns-in-Check g c = rw c.in-Check.is (search rules)

pub returns-in-Show : goal.returns-in-Show
returns-in-Show g c = rw c.in-Show.is (search rules)

pub returns-in-Replay : goal.returns-in-Replay
returns-in-Replay g c = rw c.in-Replay.is (search rules)

pub returns-in-Threads : goal.returns-in-Threads
returns-in-Threads g c = rw c.in-Threads.is (search rules)
