use Rattle.metric_otlp.specs.SeriesJson.{series_json}
use Rattle.metric_otlp.proofs.attribute_json.push_series.Goals as goal

pub returns-in-None : goal.returns-in-None
unfolding series_json
returns-in-None c = rw c.in-None.is c.push_attribute.ensures
