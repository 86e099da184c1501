-- the bytes that are put are those of the picture
use Rattle.std.proofs.Common.{ℕ, List, refl, subst}
use Rattle.wormweekly_commands.specs.Delivered.{IsDelivered}
use Rattle.wormweekly_commands.proofs.drawing.run_draw.Goals as goal

pub returns-clause-ok : goal.returns-clause-ok
returns-clause-ok g c =
    let text = λ (bytes : List ℕ). IsDelivered c.args.request.now.files.output bytes (g.F.Folder.made c.args.folder.now) (g.F.Folder.made c.put.new.folder)
    (g.W.Sink.contents c.args.sink.now) (g.W.Sink.contents c.put.new.sink) in
    record {
      drawing = c.in_ok-drawing.drawing;
      is_drawing = c.in_ok-drawing.ensures.ok;
      delivered = subst text c.as_bytes.ensures.value c.in_ok-put.ensures.delivered;
      is_status = refl;
    }
