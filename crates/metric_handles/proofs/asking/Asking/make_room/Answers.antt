-- the recorder of the seat is asked
use Rattle.std.proofs.Common.{ℕ, subst}
use Rattle.std.specs.Prelude.{slice_get}
use Rattle.metric_handles.specs.Asking.{AskingValue, FindsRoom, MakesRoom, NeedsRoom}
use Rattle.metric_provider.specs.Granting.{AnswersAsking}
use Rattle.metric_provider.specs.Rooms.{AnswersRoom, AnswersSpare}
use Rattle.metric_seat.specs.Recordings.{told_at}
use Rattle.metric_seat.specs.Seats.{RecorderValue, is_recorder_of}
use Rattle.metric_handles.proofs.asking.Asking.make_room.Goals as goal

pub returns-clause-room : goal.returns-clause-room
returns-clause-room g c =
    let p = c.args.provider.now in
    let own = c.recorder-recorder.result.now in
    let old = c.self.inside.known in
    let here = slice_get p.plan.facts.instruments c.args.instrument in
    let finds = FindsRoom (AnswersRoom (is_recorder_of p own) here own.number (told_at own c.args.instrument)) (AnswersSpare here) (AnswersAsking p own c.args.instrument) old.each c.args.needed in
    subst (λ (v : AskingValue g.row.S.Denot). MakesRoom p (g.S.Seat.seat v.seat) c.args.instrument c.args.needed v.known c.make_room.new.self) c.self.view_is
    (subst (λ (s : RecorderValue). MakesRoom p s c.args.instrument c.args.needed old c.make_room.new.self) c.recorder-recorder.ensures
    (subst (λ (told : ℕ). NeedsRoom finds old c.make_room.new.self c.args.instrument told c.args.needed (slice_get old.limits c.args.instrument)) c.told_count-told.ensures c.make_room.ensures))
