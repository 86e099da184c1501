-- one more recorder
use Rattle.std.proofs.Common.{arith, ◌∙◌}
use Rattle.toml.specs.View.{table_view}
use Rattle.metric_catalogue.specs.Recorders.{recorder_of}
use Rattle.metric_base.proofs.EachMore.{each_more, one_longer}
use Rattle.metric_catalogue.proofs.recorders.recorders_of.Goals as goal

pub loop-table-preserved : goal.loop-table-preserved
loop-table-preserved c = record {
  few = one_longer c.loop-table.recorders c.push.new.self c.in_ok-recorder.recorder _ c.in_ok-push.ensures.ok c.loop-table.invariant.few;
  exact = each_more (recorder_of c.args.count) (λ t. table_view t.now) c.loop-table.recorders c.as_slice.result.now c.push.new.self
      c.args.tables.now c.loop-table.table-index c.table-item.result c.in_ok-recorder.recorder
      (omega arith) c.table-item.is c.as_slice.ensures c.in_ok-recorder.ensures c.in_ok-push.ensures.ok
      ∙ c.loop-table.invariant.exact;
}
