-- The form that is asked for is that of the call.
use Rattle.std.proofs.Common.{subst, sym}
use Rattle.metric_command_lines.specs.declared.wormweekly.request.Form.{Form}
use Rattle.metric_kit_commands.specs.Commands.{sink_run}
use Rattle.wormweekly_commands.specs.Inputs.{IsReplayIn}
use Rattle.wormweekly_commands.proofs.replaying.replay_in_form.Goals as goal

pub returns-in-Replies : goal.returns-in-Replies
returns-in-Replies g c =
    subst (λ (form : Form). IsReplayIn form c.args.request.now.resource c.args.trial c.args.request.now.options.audit c.args.parts.now
    (sink_run g.W.Sink.contents g.W.Sink.failures c.args.sink.now c.replay_parts.new.sink) c.replay_parts.result) (sym c.in-Replies.is) c.replay_parts.ensures

pub returns-in-OtlpLines : goal.returns-in-OtlpLines
returns-in-OtlpLines g c =
    subst (λ (form : Form). IsReplayIn form c.args.request.now.resource c.args.trial c.args.request.now.options.audit c.args.parts.now
    (sink_run g.W.Sink.contents g.W.Sink.failures c.args.sink.now c.replay_encoded.new.sink) c.replay_encoded.result) (sym c.in-OtlpLines.is) c.replay_encoded.ensures

pub returns-in-OtlpBytes : goal.returns-in-OtlpBytes
returns-in-OtlpBytes g c =
    subst (λ (form : Form). IsReplayIn form c.args.request.now.resource c.args.trial c.args.request.now.options.audit c.args.parts.now
    (sink_run g.W.Sink.contents g.W.Sink.failures c.args.sink.now c.replay_encoded-in-OtlpBytes.new.sink) c.replay_encoded-in-OtlpBytes.result) (sym c.in-OtlpBytes.is) c.replay_encoded-in-OtlpBytes.ensures
