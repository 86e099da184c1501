use Rattle.std.proofs.lemmas.List.Concat.{flat_map-append}
use Rattle.metric_otlp.specs.Requests.{request}
use Rattle.metric_otlp.proofs.laws.requests_join.Goals as goal

pub returns : goal.returns
returns c = λ resource catalogue streams collections others. flat_map-append (request resource catalogue streams) collections others
