-- What the target is, or why there is none.
use Rattle.std.proofs.Common.{◌∙◌, refl}
use Rattle.metric_kit_commands.specs.Commands.{sink_run}
use Rattle.wormweekly_commands.proofs.PageEnds.{of_head}
use Rattle.wormweekly_commands.proofs.paging.replay_as_page.Goals as goal

pub replay_behind-requires-clause-labelled : goal.replay_behind-requires-clause-labelled
replay_behind-requires-clause-labelled g c = c.in-Ok.ensures.0

pub replay_behind-requires-clause-head : goal.replay_behind-requires-clause-head
replay_behind-requires-clause-head g c = c.as_slice-head.ensures ∙ c.in-Ok.ensures.1

pub returns-in-Err : goal.returns-in-Err
returns-in-Err g c =
    of_head c.args.request.now c.args.parts.now c.args.dialect c.args.trial
    (sink_run g.W.Sink.contents g.W.Sink.failures c.args.sink.now c.args.sink.now) c.in-Err.fault c.in-Err.ensures refl
