-- the words so far
use Rattle.std.proofs.Common.{◌≡◌, map, take}
use Rattle.metric_command_lines.proofs.wormweekly.reading.owned.Given as goal

abbrev pub invariant-loop-word : goal.invariant-loop-word
invariant-loop-word l = l.owned ≡ map (λ w. w.now) (take l.word-index l.words)
