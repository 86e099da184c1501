-- one reply more
use Rattle.metric_kit_commands.specs.PageLaws.{keeps_one}
use Rattle.metric_kit_commands.proofs.page_replays.LastBatches.keep_all.Goals as goal

pub loop-reply-preserved : goal.loop-reply-preserved
loop-reply-preserved c =
    keeps_one c.args.self.now.reader c.args.self.now.last.items c.loop-reply.self.reader c.keep.new.self.reader c.loop-reply.self.last.items c.keep.new.self.last.items
    c.loop-reply.yielded c.in-Some.reply c.loop-reply.invariant c.keep.ensures.reader c.keep.ensures.last
