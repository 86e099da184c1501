-- the replies are written, and then the line
use Rattle.std.proofs.KnownBytes.{Appends-trans}
use Rattle.metric_kit_commands.specs.TextLaws.{prefix_of_first, prefix_of_second}
use Rattle.metric_kit_commands.proofs.replies.write_audited.Goals as goal

pub returns-in_err-write_replies-clause-prefix : goal.returns-in_err-write_replies-clause-prefix
returns-in_err-write_replies-clause-prefix g c = prefix_of_first _ (g.W.Sink.contents c.write_replies.new.sink) _ _ c.write_replies.ensures.prefix

pub returns-in_err-write_audit-clause-prefix : goal.returns-in_err-write_audit-clause-prefix
returns-in_err-write_audit-clause-prefix g c =
    prefix_of_second _ (g.W.Sink.contents c.write_replies.new.sink) _ _ _ c.in_ok-write_replies.ensures.ok c.write_audit.ensures.prefix

pub returns-clause-prefix : goal.returns-clause-prefix
returns-clause-prefix g c =
    prefix_of_second _ (g.W.Sink.contents c.write_replies.new.sink) _ _ _ c.in_ok-write_replies.ensures.ok c.write_audit.ensures.prefix

pub returns-clause-ok : goal.returns-clause-ok
returns-clause-ok g c =
    Appends-trans _ (g.W.Sink.contents c.write_replies.new.sink) _ _ _ c.in_ok-write_replies.ensures.ok c.in_ok-write_audit.ensures.ok
