-- what is written so far
use Rattle.std.proofs.Common.{◌≡◌, ◌++◌, take}
use Rattle.std.specs.List.{flat_map}
use Rattle.metric_lines.specs.Streams.{warning_text}
use Rattle.wormweekly_c.proofs.warnings.push_warnings.Given as goal

abbrev pub invariant-loop-warning : goal.invariant-loop-warning
invariant-loop-warning l = l.text.items ≡ l.fn.text.items ++ flat_map warning_text (take l.warning-index l.warnings)
