-- the replies so far are kept
use Rattle.metric_kit_commands.specs.Pages.{Keeps}
use Rattle.metric_kit_commands.proofs.page_replays.LastBatches.keep_all.Given as goal

abbrev pub invariant-loop-reply : goal.invariant-loop-reply
invariant-loop-reply l = Keeps l.fn.self.reader l.fn.self.last.items l.self.reader l.self.last.items l.yielded
