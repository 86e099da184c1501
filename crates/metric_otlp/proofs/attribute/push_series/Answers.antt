use Rattle.metric_otlp.specs.Series.{series_fields}
use Rattle.metric_otlp.proofs.attribute.push_series.Goals as goal

pub returns-in-None : goal.returns-in-None
unfolding series_fields
returns-in-None c = rw c.in-None.is c.push_attribute.ensures
