-- so many lists so far
use Rattle.std.proofs.Common.{◌≡◌, [], replicate}
use Rattle.metric_kit_commands.proofs.slips.no_slips.Given as goal

abbrev pub invariant-loop-turn : goal.invariant-loop-turn
invariant-loop-turn l = l.lists.items ≡ replicate l._turn []
