-- the run of what was prepared, with its replies audited
use Rattle.std.proofs.Common.{ap, ◌∙◌}
use Rattle.metric_kit_commands.specs.Replaying.{script_events_of}
use Rattle.metric_kit_commands.specs.Replies.{accepted_count}
use Rattle.metric_kit_commands.proofs.AuditedRuns.{is_audited_run}
use Rattle.metric_kit_commands.proofs.replays.audited_run.Goals as goal

pub returns-clause-ok : goal.returns-clause-ok
returns-clause-ok c =
    let run = c.in_ok-run.run' in
    is_audited_run c.args.options c.args.parts.now run.core.plan c.audited_replies.new.core.plan run.core.start run.start (script_events_of c.args.parts.now) c.as_slice.result.now
    c.in_ok-replies.replies.items c.accepted_count-accepted.result
    c.in_ok-run.ensures.ok c.in_ok-run.ensures.start (c.as_slice.ensures ∙ c.in_ok-events.ensures ∙ c.event_lines.ensures) c.audited_replies.ensures.plan c.in_ok-replies.ensures.run c.in_ok-replies.ensures.audited
    (c.accepted_count-accepted.ensures ∙ ap accepted_count c.deref.ensures.value)
