-- one more key
use Rattle.std.proofs.Common.{arith, ◌∙◌}
use Rattle.toml.specs.View.{view}
use Rattle.metric_catalogue.specs.SharedKeys.{key_entry}
use Rattle.metric_base.proofs.EachMore.{each_more, one_longer}
use Rattle.metric_catalogue.proofs.shared_keys.keys_of.Goals as goal

pub loop-entry-preserved : goal.loop-entry-preserved
loop-entry-preserved c = record {
  few = one_longer c.loop-entry.keys c.push.new.self c.in_ok-key.key _ c.in_ok-push.ensures.ok c.loop-entry.invariant.few;
  exact = each_more (key_entry c.args.format c.args.shared.now c.args.instrument) view c.loop-entry.keys c.as_slice.result.now c.push.new.self
      c.args.entries.now c.loop-entry.entry-index c.entry-item.result c.in_ok-key.key
      (omega arith) c.entry-item.is c.as_slice.ensures c.in_ok-key.ensures c.in_ok-push.ensures.ok
      ∙ c.loop-entry.invariant.exact;
}
