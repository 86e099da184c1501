-- one batch more
use Rattle.std.proofs.Common.{refl}
use Rattle.std.proofs.lemmas.Option.{slice_get_read}
use Rattle.metric_export.specs.ExporterCalls.{IsExport}
use Rattle.metric_export.proofs.QueueLaws.{next_taken}
use Rattle.metric_periodic.specs.Exported.{Answered}
use Rattle.metric_periodic.proofs.exports.Exports.hand_on_in_order.Goals as goal

pub loop-taken-preserved : goal.loop-taken-preserved
loop-taken-preserved g c =
    next_taken (Answered (IsExport g.E.MetricExporter c.args.plan.now)) c.args.self.now c.loop-taken.self c.refusal_of.new.self
    c.args.batches.now c.loop-taken.taken c.index-batches-taken.result c.loop-taken-test.true c.index-batches-taken.is c.loop-taken.invariant c.in-None.ensures

pub returns-in-Some-clause-handed : goal.returns-in-Some-clause-handed
returns-in-Some-clause-handed g c = record {
  mid = c.loop-taken.self;
  took = c.loop-taken.invariant;
  batch = c.index-batches-taken.result;
  next = slice_get_read c.args.batches.now _ _ _ refl c.loop-taken-test.true c.index-batches-taken.is;
  refused = c.in-Some.ensures;
}
