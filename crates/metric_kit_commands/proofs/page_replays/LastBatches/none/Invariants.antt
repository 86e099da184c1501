-- none yet
use Rattle.std.proofs.Common.{◌≡◌, None, replicate}
use Rattle.metric_kit_commands.proofs.page_replays.LastBatches.none.Given as goal

abbrev pub invariant-loop : goal.invariant-loop
invariant-loop l = l.last.items ≡ replicate l.counter None
