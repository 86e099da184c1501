-- the refusals so far
use Rattle.std.proofs.Common.{◌≡◌, ◌++◌, take}
use Rattle.std.specs.List.{flat_map}
use Rattle.metric_handles.specs.Refused.{all_refusals, refusal_on}
use Rattle.metric_handles.proofs.refused.add_refusals.Given as goal

abbrev pub invariant-loop-refusal : goal.invariant-loop-refusal
invariant-loop-refusal l = l.all.items ≡ l.fn.all.items ++ flat_map (refusal_on l.instrument l.counts) (take l.refusal-index all_refusals)
