-- one more instrument
use Rattle.std.proofs.Common.{arith, map, ◌∙◌}
use Rattle.toml.specs.View.{table_view}
use Rattle.metric_catalogue.specs.Instruments.{instrument_of}
use Rattle.metric_base.proofs.EachMore.{each_more, one_longer}
use Rattle.metric_catalogue.proofs.instruments.add_instruments.Goals as goal

pub loop-table-preserved : goal.loop-table-preserved
loop-table-preserved c = record {
  few = omega (arith, one_longer c.loop-table.instruments c.push.new.self c.in_ok-instrument.instrument _ c.in_ok-push.ensures.ok c.loop-table.invariant.few);
  exact = each_more (instrument_of c.args.format c.args.shared.now (map (λ t. table_view t.now) c.args.recorders.now) c.args.meter c.args.name.now (table_view c.args.group.now) c.args.common.now) (λ t. table_view t.now) c.loop-table.instruments c.as_slice.result.now c.push.new.self
      c.args.tables.now c.loop-table.table-index c.table-item.result c.in_ok-instrument.instrument
      (omega arith) c.table-item.is c.as_slice.ensures c.in_ok-instrument.ensures c.in_ok-push.ensures.ok
      ∙ c.loop-table.invariant.exact;
}
