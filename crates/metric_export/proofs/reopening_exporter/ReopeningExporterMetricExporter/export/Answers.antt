-- the text is written to the sink that is open, or else to a new one
use Rattle.std.proofs.Common.{refl}
use Rattle.metric_export.proofs.OthersLaws.{none_refused}
use Rattle.metric_export.proofs.reopening_exporter.ReopeningExporterMetricExporter.export.Goals as goal

pub returns-clause-gives : goal.returns-clause-gives
returns-clause-gives g c =
    rw (← c.self.view_is)
    (record {
      writes = λ _ _. record {
        found = c.take_sink-found.result;
        finds = c.take_sink-found.ensures;
        writes = c.write_to_found-left.ensures.written;
        counted = c.failures_after-self-inside.ensures;
        state = refl;
        encoding = refl;
      };
      others = λ other. absurd (other (none_refused _ _ (rw c.takes.ensures at c.in_ok-own_batch.ensures)));
      unwritten = λ shut. absurd (shut c.in_ok-admit.ensures);
    })
