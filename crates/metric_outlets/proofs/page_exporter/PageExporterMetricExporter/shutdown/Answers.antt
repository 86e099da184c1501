use Rattle.metric_outlets.proofs.PageLaws.{shut_down}
use Rattle.metric_outlets.proofs.page_exporter.PageExporterMetricExporter.shutdown.Goals as goal

pub returns-clause-gives : goal.returns-clause-gives
returns-clause-gives g c =
    shut_down g.P.Pages.replaces c.args.self.now _ c.force_flush-answer.result
    (rw (← c.self.view_is) at c.force_flush-answer.ensures.gives)
