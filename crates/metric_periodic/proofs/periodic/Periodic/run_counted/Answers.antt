use Rattle.std.proofs.Common.{ℕ, List, ap}
use Rattle.metric_history.specs.declared.batch.Batch.{Batch}
use Rattle.metric_plan.specs.Plans.{PlanValue}
use Rattle.metric_export.specs.ExporterCalls.{calls_of}
use Rattle.metric_periodic.proofs.Handing.{run_hands_on, run_keeps_refused}
use Rattle.metric_periodic.proofs.periodic.Periodic.run_counted.Goals as goal

pub returns-clause-run : goal.returns-clause-run
returns-clause-run g c =
    rw (← c.self.view_is) (rw (c.new.ensures, ← c.exports.view_is) at c.read_to_end-exports.ensures.run)

pub returns-clause-handed : goal.returns-clause-handed
returns-clause-handed g c =
    let e = g.E.MetricExporter in
    let plan = c.args.provider.now.plan in
    rw (← c.self.view_is)
    (run_hands_on _ _ (calls_of e plan) (λ exporter. e.text exporter plan) e.contents
    (record {
      appending = λ old new batch answer call. (call.appends, ap (λ (f : PlanValue → Batch → List ℕ). f plan) call.same_text);
      flushing = λ old new answer call. call.keeps;
      same_flushing = λ old new answer call. ap (λ (f : PlanValue → Batch → List ℕ). f plan) call.same_text;
      trying = λ old new answer call. call.keeps;
      same_trying = λ old new answer call. ap (λ (f : PlanValue → Batch → List ℕ). f plan) call.same_text;
      ending = λ old new answer call. call.keeps;
    }) _ _ _ _ _ _
    (rw (c.new.ensures, ← c.exports.view_is) at c.read_to_end-exports.ensures.run))

pub returns-clause-shut_down : goal.returns-clause-shut_down
returns-clause-shut_down g c =
    let run = rw (← c.exports.view_is) at c.read_to_end-exports.ensures.run in
    run.shut_down.call.shut_down

pub returns-clause-kept : goal.returns-clause-kept
returns-clause-kept g c =
    run_keeps_refused _ (calls_of g.E.MetricExporter c.args.provider.now.plan) _ _ _ _ _ _ _
    (rw (← c.exports.view_is) at c.read_to_end-exports.ensures.run)
