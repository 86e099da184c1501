use Rattle.metric_otlp.specs.Lines.{covered_json}
use Rattle.metric_otlp.proofs.line.push_covered.Goals as goal

pub returns : goal.returns
unfolding covered_json
returns c = rw (← c.covers-covers.ensures, ← c.rises.ensures) c.push_object.ensures
