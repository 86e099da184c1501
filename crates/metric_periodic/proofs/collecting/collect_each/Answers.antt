-- those with points are given
use Rattle.std.proofs.Common.{rules}
use Rattle.std.proofs.lemmas.Fn.{filter_same}
use Rattle.metric_periodic.proofs.collecting.collect_each.Goals as goal

pub returns-clause-each : goal.returns-clause-each
returns-clause-each g c = record {
  given = c.in_ok-given.given.batches.items;
  all = c.in_ok-given.ensures.all;
  pointed = filter_same _ _ _ (λ x b f' k. search rules) _ _ c.retain.ensures.filtered;
}
