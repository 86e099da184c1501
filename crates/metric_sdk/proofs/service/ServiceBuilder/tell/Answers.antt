-- no such reader
use Rattle.std.proofs.Common.{◌∙◌, sym, refl}
use Rattle.metric_contents.specs.PlaceLaws.{position_from-within}
use Rattle.metric_sdk.proofs.ServiceLaws.{no_reader}
use Rattle.metric_sdk.proofs.service.ServiceBuilder.tell.Goals as goal

pub returns-in_default-clause-left : goal.returns-in_default-clause-left
returns-in_default-clause-left g c = (
  refl,
  rw (← c.self.view_is)
      (no_reader (g.E.MetricExporter.takes c.args.exporter) _ c.self.inside.service c.self.inside.readers.items c.take_reader.new.seats.items (λ p is. position_from-within _ 0 _ p is)
      (sym (rw c.plan.ensures at c.take_reader.ensures.taken) ∙ c.in_default.is) (rw c.plan.ensures at c.take_reader.ensures.left)),
)
