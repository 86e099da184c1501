use Rattle.std.proofs.Common.{rules}
use Rattle.metric_seat.proofs.recorder.RecorderSeat.is_of.Goals as goal

pub returns-then-self-recorders : goal.returns-then-self-recorders
returns-then-self-recorders c = search rules
