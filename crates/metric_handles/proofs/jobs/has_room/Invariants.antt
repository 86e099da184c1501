-- there is room for those so far
use Rattle.std.proofs.Common.{All, take}
use Rattle.metric_handles.specs.Jobs.{HasRoomFor}
use Rattle.metric_handles.proofs.jobs.has_room.Given as goal

abbrev pub invariant-loop-place : goal.invariant-loop-place
invariant-loop-place g l = All (HasRoomFor (g.M.Rooms.tells l.rooms) l.job) (take l.place l.job)
