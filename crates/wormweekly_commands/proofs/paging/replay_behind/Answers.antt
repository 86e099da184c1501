-- The reader, or why there is none.
use Rattle.std.proofs.Common.{refl}
use Rattle.metric_kit_commands.specs.Commands.{sink_run}
use Rattle.wormweekly_commands.proofs.PageEnds.{of_end, of_reader}
use Rattle.wormweekly_commands.proofs.paging.replay_behind.Goals as goal

pub returns-in-Ok : goal.returns-in-Ok
returns-in-Ok g c =
    of_end c.args.request.now c.args.parts.now c.args.dialect c.in-Ok.reader c.args.head.now c.args.trial
    (sink_run g.W.Sink.contents g.W.Sink.failures c.args.sink.now c.replay_of.new.sink) c.replay_of.result c.requires.labelled c.requires.head c.in-Ok.ensures c.replay_of.ensures

pub returns-in-Err : goal.returns-in-Err
returns-in-Err g c =
    of_reader c.args.request.now c.args.parts.now c.args.dialect c.args.trial
    (sink_run g.W.Sink.contents g.W.Sink.failures c.args.sink.now c.args.sink.now) c.in-Err.fault c.requires.labelled c.in-Err.ensures refl
