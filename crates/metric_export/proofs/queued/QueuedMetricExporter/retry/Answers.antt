-- what is left of the queue is kept
use Rattle.std.proofs.Common.{Result, ap, rules, ◌∙◌}
use Rattle.metric_export.proofs.OthersLaws.{none_refused, not_both, same_of_handed}
use Rattle.metric_export.specs.Queues.{retried}
use Rattle.metric_export.specs.declared.fault.ExportFault.{ExportFault}
use Rattle.metric_export.proofs.queued.QueuedMetricExporter.retry.Goals as goal

pub returns-clause-gives : goal.returns-clause-gives
returns-clause-gives g c =
    let own = rw c.deref.ensures.value at c.in_ok-own_batches.ensures in
    rw (← c.self.view_is)
    (record {
      when_open = λ open_state _. record {
        mid = c.export_each-handed.new.exporter;
        sent = c.export_each-handed.result.taken;
        refused = c.export_each-handed.result.refused;
        below = c.retry.result;
        tries = rw (← c.deref-2.ensures.value) c.export_each-handed.ensures.handed;
        retries_below = record {
          own = c.retry.ensures.gives;
          keeps = c.retry.ensures.text;
          same_text = c.retry.ensures.same_text;
          same_takes = c.retry.ensures.same_takes;
          goes_on = c.retry.ensures.state;
        };
        kept = c.discard.ensures.items;
        answer_is =
            c.retried-answer.ensures
            ∙ ap (λ (told : Result (Unit {0}) ExportFault). retried c.export_each-handed.result.refused told) c.passed_on-below.ensures;
        pause = search rules;
        wait = search rules;
        counted_sent = search rules;
        dropped = search rules;
        unkept = search rules;
        failures = c.failures_after-self-inside.ensures;
        most = search rules;
        state = search rules;
      };
      when_other = λ open_state why other. absurd (not_both _ why (none_refused _ _ own) other);
      when_shut = λ shut. absurd (shut c.in_ok-admit.ensures);
    })

pub returns-clause-same_takes : goal.returns-clause-same_takes
returns-clause-same_takes g c =
    rw (← c.self.view_is)
    (c.retry.ensures.same_takes ∙ same_of_handed g.E.MetricExporter c.args.plan.now _ _ _ _ _ c.export_each-handed.ensures.handed)
