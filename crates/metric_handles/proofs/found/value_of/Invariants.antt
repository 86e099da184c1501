-- what the batches that are left have, else what was found
use Rattle.std.proofs.Common.{◌≡◌, length, map}
use Rattle.std.specs.List.{filter_map, last_or}
use Rattle.std.specs.Option.{option_copied}
use Rattle.metric_contents.specs.Attributes.{given_by}
use Rattle.metric_handles.specs.Found.{value_in, value_of}
use Rattle.metric_handles.proofs.found.value_of.Given as goal

abbrev pub invariant-loop-left : goal.invariant-loop-left
invariant-loop-left l =
    let f = value_in l.plan l.name (map given_by l.attrs) in
    last_or (option_copied l.found) (filter_map f l.left) ≡ value_of l.plan l.name (map given_by l.attrs) l.batches

abbrev pub decreases-loop-left : goal.decreases-loop-left
decreases-loop-left l = length l.left
