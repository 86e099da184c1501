-- one table more is restored
use Rattle.metric_marked.specs.Stepwise.{Restores}
use Rattle.metric_series.specs.declared.place.Place.TheVariants.{Held}
use Rattle.metric_marked.proofs.StepLaws.{each-stepped, same-table}
use Rattle.metric_marked.proofs.tables.unready_all.Goals as goal

pub loop-index-preserved : goal.loop-index-preserved
loop-index-preserved c =
    each-stepped Restores c.args.tables.now c.loop-index.tables c.args.places.now c.loop-index.index c.index-tables-index.result _ (Held 0)
    c.loop-index.invariant c.requires c.loop-index-test.true
    (λ entry before ready. same-table _ before ready.same.number ready.same.reader (c.unready.ensures.restored before.table entry.set entry.value ready.ready))
