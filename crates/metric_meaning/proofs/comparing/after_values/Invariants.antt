-- what is left of the values and of the attributes comes to the same as all of them
use Rattle.std.proofs.Common.{◌≡◌, ◌≤◌, length, map}
use Rattle.metric_contents.specs.Attributes.{given_by}
use Rattle.metric_meaning.specs.Agreeing.{after_values}
use Rattle.metric_meaning.proofs.comparing.after_values.Given as goal

abbrev pub invariant-loop-rest : goal.invariant-loop-rest
invariant-loop-rest l = record {
  same : after_values l.name l.left (map given_by l.rest) ≡ after_values l.name l.values (map given_by l.attrs);
  fewer : length l.left ≤ length l.values;
}

abbrev pub decreases-loop-rest : goal.decreases-loop-rest
decreases-loop-rest l = length l.rest
