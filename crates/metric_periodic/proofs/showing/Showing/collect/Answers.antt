-- what is told of all that was collected
use Rattle.std.proofs.Common.{refl, rules}
use Rattle.std.proofs.lemmas.Fn.{filter_same}
use Rattle.metric_periodic.proofs.ShownLaws.{told_by}
use Rattle.metric_periodic.proofs.showing.Showing.collect.Goals as goal

pub returns : goal.returns
returns g c =
    rw (← c.self.view_is) (told_by _ _ _ _ _ _ c.uncollected.result (record {
      given = c.in-Ok.given.batches.items;
      all = c.in-Ok.ensures.all;
      told = filter_same _ _ _ (λ x b f' k. search rules) _ _ c.retain.ensures.filtered;
      shown = refl;
    }) c.uncollected.ensures)
