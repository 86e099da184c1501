-- the exporter as its flush left it
use Rattle.std.proofs.Common.{None, ap}
use Rattle.metric_export.specs.Reopens.{ReopeningValue}
use Rattle.metric_export.proofs.reopening_exporter.ReopeningExporter.reopen.Goals as goal

pub returns-clause-gives : goal.returns-clause-gives
returns-clause-gives g c =
    let let_go = ap (λ (left : ReopeningValue _ _ _). record left { sink = None }) c.self.view_is in
    (c.force_flush.new.self, (c.in_ok-force_flush.ensures.gives, let_go))
