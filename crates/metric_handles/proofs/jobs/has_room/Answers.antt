-- one more that there is room for
use Rattle.std.proofs.lemmas.List.Elements.{All-more}
use Rattle.metric_handles.specs.Jobs.{HasRoomFor}
use Rattle.metric_handles.proofs.jobs.has_room.Goals as goal

pub loop-place-preserved : goal.loop-place-preserved
loop-place-preserved g c =
    All-more (HasRoomFor (g.M.Rooms.tells c.args.rooms.now) c.args.job.now) c.args.job.now c.loop-place.place _ c.loop-place-test.true c.loop-place.invariant c.in-Ok.ensures.ok
