use Rattle.std.proofs.Common.{◌≡◌, ◌∷◌, ◌++◌, take}
use Rattle.std.specs.List.{flat_map}
use Rattle.metric_parts.proofs.joining.push_lines.Given as goal

abbrev pub invariant-loop-line : goal.invariant-loop-line
invariant-loop-line l = l.bytes.items ≡ l.fn.bytes.items ++ flat_map (λ line. 10 ∷ line.now) (take l.line-index l.lines)
