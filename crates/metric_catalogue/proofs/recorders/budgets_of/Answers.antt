-- one more budget
use Rattle.std.proofs.Common.{arith, sym, ◌∙◌}
use Rattle.toml.specs.View.{table_view}
use Rattle.metric_catalogue.specs.Recorders.{budget_of}
use Rattle.metric_base.proofs.EachMore.{each_more, one_longer}
use Rattle.metric_catalogue.proofs.recorders.budgets_of.Goals as goal

pub loop-table-preserved : goal.loop-table-preserved
loop-table-preserved c = record {
  few = one_longer c.loop-table.budgets c.push.new.self c.in_ok-budget.budget _ c.in_ok-push.ensures.ok c.loop-table.invariant.few;
  exact = each_more (budget_of c.args.recorder c.args.count) (λ t. table_view t.now) c.loop-table.budgets c.as_slice.result.now c.push.new.self
      c.args.tables.now c.loop-table.table-index c.table-item.result c.in_ok-budget.budget
      (omega arith) c.table-item.is c.as_slice.ensures (sym c.budget_of.ensures ∙ c.in_ok-budget.was) c.in_ok-push.ensures.ok
      ∙ c.loop-table.invariant.exact;
}
