-- what is written so far
use Rattle.std.proofs.Common.{◌≡◌, ◌++◌, map, take}
use Rattle.metric_otlp.specs.Written.{written}
use Rattle.metric_otlp.proofs.series.push_values.Given as goal

abbrev pub invariant-loop-value : goal.invariant-loop-value
invariant-loop-value l =
    l.entries ≡ l.fn.entries ++ map (λ value. written l.form (l.key.name, value)) (take l.value-index l.key.values)
