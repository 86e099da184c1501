use Rattle.std.proofs.Common.{◌+◌, ◌-◌, ◌^◌, ◌<◌}
use Rattle.std.specs.Prelude.{int_lt}
use Rattle.metric_aggregate.proofs.RisingLaws.{IsParted}
use Rattle.metric_aggregate.proofs.search.count_less.Given as goal

abbrev pub invariant-loop-level : goal.invariant-loop-level
invariant-loop-level l = record {
  small : l.level < 64;
  parted : IsParted (λ number. int_lt number l.fn.value) l.fn.numbers l.found (l.found + 2 ^ l.level - 1);
}

abbrev pub decreases-loop-level : goal.decreases-loop-level
decreases-loop-level l = l.level
