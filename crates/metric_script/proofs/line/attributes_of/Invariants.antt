-- the attributes so far and those that are left are all
use Rattle.std.proofs.Common.{◌≡◌, length}
use Rattle.metric_script.specs.Reading.{all_attributes_in}
use Rattle.metric_script.proofs.AttributeLaws.{after_attributes}
use Rattle.metric_script.proofs.line.attributes_of.Given as goal

abbrev pub invariant-loop-rest : goal.invariant-loop-rest
invariant-loop-rest l = after_attributes l.attrs (all_attributes_in l.rest) ≡ all_attributes_in l.fn.bytes

abbrev pub decreases-loop-rest : goal.decreases-loop-rest
decreases-loop-rest l = length l.rest
