-- what is written so far
use Rattle.std.proofs.Common.{◌≡◌, ◌++◌, take}
use Rattle.metric_otlp.specs.Requests.{resource_message}
use Rattle.metric_otlp.proofs.request.push_owned.Given as goal

abbrev pub invariant-loop-attribute : goal.invariant-loop-attribute
invariant-loop-attribute l = l.out.items ≡ l.fn.out.items ++ resource_message (take l.attribute-index l.attributes)
