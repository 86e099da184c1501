-- one table more has taken the value
use Rattle.std.proofs.Common.{◌≡◌, get_or, ℤ, refl, sym, subst, rules, w64, SFits}
use Rattle.std.proofs.lemmas.Int.{to_z-of_z}
use Rattle.metric_marked.specs.StreamSeries.{stream_series}
use Rattle.metric_series.specs.declared.place.Place.TheVariants.{Held}
use Rattle.metric_marked.specs.Stepwise.{Puts}
use Rattle.metric_marked.specs.declared.stream_table.StreamTable.{StreamTable}
use Rattle.metric_marked.proofs.StepLaws.{each-rest, each-stepped, puts-one, ready-at}
use Rattle.metric_marked.proofs.tables.put_all.Goals as goal

pub put-requires : goal.put-requires
put-requires c =
    let in64 : SFits w64 c.args.entry.now.value = search rules in
    let i = c.loop-index.index in
    let d = c.index-tables-index.result in
    let place = get_or c.args.places.now i (Held 0) in
    let same : get_or c.loop-index.tables i d ≡ get_or c.args.tables.now i d =
    each-rest (Puts c.args.entry.now) c.args.tables.now c.loop-index.tables c.args.places.now i d c.loop-index.invariant c.requires.one_each c.loop-index-test.true in
    let known = ready-at c.args.entry.now c.args.tables.now c.args.places.now i d (Held 0) c.requires.ready c.loop-index-test.true in (
      known.0.table,
      c.args.entry.now.set,
      subst (λ (v : ℤ). stream_series.is_ready known.0.table (get_or c.loop-index.tables i d).table c.args.entry.now.set v place) (sym (to_z-of_z w64 c.args.entry.now.value in64))
          (subst (λ (t : StreamTable). stream_series.is_ready known.0.table t.table c.args.entry.now.set c.args.entry.now.value place) (sym same) known.1.ready),
    )

pub loop-index-preserved : goal.loop-index-preserved
loop-index-preserved c =
    let in64 : SFits w64 c.args.entry.now.value = search rules in
    each-stepped (Puts c.args.entry.now) c.args.tables.now c.loop-index.tables c.args.places.now c.loop-index.index c.index-tables-index.result _ (Held 0)
    c.loop-index.invariant c.requires.one_each c.loop-index-test.true
    (puts-one c.args.entry.now _ _ _ _ (to_z-of_z w64 c.args.entry.now.value in64) (record { number = refl; reader = refl; places = c.put.ensures.places }) c.put.ensures.stands)
