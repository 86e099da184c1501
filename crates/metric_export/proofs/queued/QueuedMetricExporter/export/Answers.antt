-- what is left of the queue is kept, and each answer is counted
use Rattle.std.proofs.Common.{◌≡◌, Bool, ap, subst, rules, ◌∙◌}
use Rattle.std.proofs.lemmas.Result.{err_from_is_err_and}
use Rattle.metric_export.specs.ExporterCalls.{IsExport}
use Rattle.metric_export.specs.Queues.{TriesWhenDue, is_due, pause_after, wait_after}
use Rattle.metric_export.proofs.OthersLaws.{answers_refused, none_of_all, none_refused, not_both, same_of_tries, some_refused}
use Rattle.metric_export.proofs.queued.QueuedMetricExporter.export.Goals as goal

pub returns-clause-gives : goal.returns-clause-gives
returns-clause-gives g c =
    let exports = IsExport g.E.MetricExporter c.args.plan.now in
    let old = c.self.inside in
    let told = c.try_when_due-sent.result.1 in
    let due : c.is_due-due.result ≡ is_due old.wait old.kept.items = c.is_due-due.ensures ∙ ap (is_due old.wait) c.deref-2.ensures.value in
    let first = none_refused _ _ (rw c.takes.ensures at c.in_ok-own_batch.ensures) in
    let none = none_of_all _ _ first (none_refused _ _ (rw c.deref.ensures.value at c.in_ok-own_batches.ensures)) in
    rw (← c.self.view_is)
    (record {
      when_open = λ open_state _. record {
        sent = c.try_when_due-sent.result.0;
        told = told;
        lost = c.keep-is_in.result.1;
        is_in = c.keep-is_in.result.0;
        tries =
            subst (λ (is : Bool). TriesWhenDue is exports old.inner c.try_when_due-sent.new.inner old.kept.items c.args.batch.now c.try_when_due-sent.result.0 told) due
            (rw (← c.deref-3.ensures.value) c.try_when_due-sent.ensures.tries);
        in_where_sent = c.keep-is_in.ensures.taken;
        none_may = c.keep-is_in.ensures.none;
        lost_is = c.keep-is_in.ensures.lost;
        kept = c.keep-is_in.ensures.items;
        answer_is = c.answered.ensures;
        pause =
            c.pause_after-self-inside.ensures ∙ ap (λ (is : Bool). pause_after is old.pause c.is_taken-is_taken.result) due
            ∙ ap (λ (is : Bool). pause_after (is_due old.wait old.kept.items) old.pause is) c.is_taken-is_taken.ensures;
        wait =
            c.wait_after-self-inside.ensures ∙ ap (λ (is : Bool). wait_after is old.wait old.pause c.is_taken-is_taken.result) due
            ∙ ap (λ (is : Bool). wait_after (is_due old.wait old.kept.items) old.wait old.pause is) c.is_taken-is_taken.ensures;
        counted_sent = search rules;
        counted_dropped = search rules;
        counted_unkept = search rules;
        failures = c.failures_after-self-inside.ensures;
        most = search rules;
        state = search rules;
      };
      when_other = λ open_state why other. absurd (not_both _ why none other);
      when_shut = λ shut. absurd (shut c.in_ok-admit.ensures);
    })

pub returns-clause-same_takes : goal.returns-clause-same_takes
returns-clause-same_takes g c =
    rw (← c.self.view_is)
    (same_of_tries g.E.MetricExporter c.args.plan.now _ _ _ _ _ _ _ c.try_when_due-sent.ensures.tries)

pub returns-in_err-own_batches-clause-answer : goal.returns-in_err-own_batches-clause-answer
returns-in_err-own_batches-clause-answer g c =
    let p = err_from_is_err_and c.from_residual-in_err-own_batches.result c.from_residual-in_err-own_batches.ensures.1 in
    rw (← c.self.view_is, p.1, p.2)
    (answers_refused _ _ (g.E.MetricExporter.takes c.self.inside.inner) c.args.plan.now c.deref.result.now c.in_err-own_batches.field-0.0 c.in_ok-admit.ensures
    (some_refused _ _ c.in_err-own_batches.ensures))
