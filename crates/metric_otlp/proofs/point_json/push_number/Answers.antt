use Rattle.std.proofs.Common.{w64}
use Rattle.std.proofs.lemmas.Int.{to_z-of_z}
use Rattle.metric_otlp.specs.PointsJson.{number_json}
use Rattle.metric_otlp.proofs.point_json.push_number.Goals as goal

pub returns : goal.returns
unfolding number_json
returns c = rw (← to_z-of_z w64 c.args.number c.ranges.number) c.push_object.ensures
