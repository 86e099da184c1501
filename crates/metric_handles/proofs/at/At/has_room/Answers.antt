-- the recorder of the seat is asked
use Rattle.std.proofs.Common.{All, subst}
use Rattle.std.specs.Prelude.{IfErr, OnOk}
use Rattle.metric_handles.specs.Jobs.{HasRoomFor, LacksRoomAt, TellsNeed}
use Rattle.metric_seat.specs.Seats.{RecorderValue}
use Rattle.metric_handles.proofs.at.At.has_room.Goals as goal

pub returns-clause-ok : goal.returns-clause-ok
returns-clause-ok g c =
    let P : RecorderValue → Type 0 = λ s. OnOk c.has_room.result (All (HasRoomFor (TellsNeed c.args.self.now.provider.now s) c.args.job.now) c.args.job.now) in
    subst P c.recorder.ensures c.has_room.ensures.ok

pub returns-clause-err : goal.returns-clause-err
returns-clause-err g c =
    let P : RecorderValue → Type 0 = λ s. IfErr c.has_room.result (LacksRoomAt (TellsNeed c.args.self.now.provider.now s) c.args.job.now) in
    subst P c.recorder.ensures c.has_room.ensures.err
