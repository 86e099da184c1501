-- one more key
use Rattle.std.proofs.Common.{arith, ◌∙◌}
use Rattle.toml.specs.View.{table_view}
use Rattle.metric_catalogue.specs.SharedKeys.{shared_key}
use Rattle.metric_base.proofs.EachMore.{each_more, one_longer}
use Rattle.metric_catalogue.proofs.shared_keys.shared_keys.Goals as goal

pub loop-table-preserved : goal.loop-table-preserved
loop-table-preserved c = record {
  few = one_longer c.loop-table.keys c.push.new.self c.in_ok-key.key _ c.in_ok-push.ensures.ok c.loop-table.invariant.few;
  exact = each_more shared_key (λ t. table_view t.now) c.loop-table.keys c.as_slice.result.now c.push.new.self
      c.args.tables.now c.loop-table.table-index c.table-item.result c.in_ok-key.key
      (omega arith) c.table-item.is c.as_slice.ensures c.in_ok-key.ensures c.in_ok-push.ensures.ok
      ∙ c.loop-table.invariant.exact;
}
