use Rattle.metric_otlp.specs.PointsJson.{histogram_json}
use Rattle.metric_otlp.proofs.point_json.push_histogram.Goals as goal

pub returns : goal.returns
unfolding histogram_json
returns c = c.push_object.ensures
