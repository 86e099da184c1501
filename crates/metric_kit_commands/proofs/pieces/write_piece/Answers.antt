-- what is written is that of the replies that are due
use Rattle.std.proofs.Common.{subst, ◌∙◌}
use Rattle.std.specs.Io.KnownBytes.{Appends}
use Rattle.metric_io.specs.Prefix.{AppendsPrefix}
use Rattle.metric_kit_commands.proofs.PieceLaws.{on_done, text_is_due}
use Rattle.metric_kit_commands.proofs.pieces.write_piece.Goals as goal

pub returns-clause-ok : goal.returns-clause-ok
returns-clause-ok g c =
    on_done c.write_replies.result
    (λ written h stands. subst (Appends (g.W.Sink.contents c.args.sink.now) (g.W.Sink.contents c.write_replies.new.sink))
    (text_is_due (g.F.ReplyForm.text c.args.form.now) c.args.core.now.plan _ c.args.core.now.start h c.args.events.now c.in_ok-replies.replies.items _
    (c.plan.ensures ∙ c.in_ok-replies.ensures.plan) c.deref.ensures.value (c.in_ok-replies.ensures.due h stands)) written)
    c.write_replies.ensures.ok

pub returns-clause-prefix : goal.returns-clause-prefix
returns-clause-prefix g c = λ h stands.
    subst (AppendsPrefix (g.W.Sink.contents c.args.sink.now) (g.W.Sink.contents c.write_replies.new.sink))
    (text_is_due (g.F.ReplyForm.text c.args.form.now) c.args.core.now.plan _ c.args.core.now.start h c.args.events.now c.in_ok-replies.replies.items _
    (c.plan.ensures ∙ c.in_ok-replies.ensures.plan) c.deref.ensures.value (c.in_ok-replies.ensures.due h stands)) c.write_replies.ensures.prefix
