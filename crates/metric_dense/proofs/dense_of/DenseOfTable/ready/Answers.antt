-- the aggregate of the set's rank has the recordings of its series
use Rattle.std.proofs.Common.{◌≡◌, length, sym, ap, subst, ◌∙◌, rules, w64, SFits}
use Rattle.std.proofs.lemmas.Int.{to_z-of_z}
use Rattle.metric_series.specs.Calls.{is_in_range}
use Rattle.metric_dense.specs.DenseTables.{JudgesAt}
use Rattle.metric_dense.proofs.Taking.{dense_judges}
use Rattle.metric_dense.proofs.dense_of.DenseOfTable.ready.Goals as goal
use Rattle.metric_dense.proofs.dense_of.DenseOfTable.ready.Goals.{then-fits_at, else-fits_at}

pub returns-clause-in_range : goal.returns-clause-in_range
returns-clause-in_range g c = λ s window recorder known.
    let in64 : SFits w64 c.args.value = search rules in
    let long : length c.args.set.now ≡ 8 = search rules in
    let told : c.fits_at.result ≡ is_in_range c.if-fits_at.result =
    elim c.if-fits_at.branch [
      | then-fits_at w ↦ w.if-fits_at.true ∙ sym (ap is_in_range w.result-is)
      | else-fits_at w ↦ w.if-fits_at.false ∙ sym (ap is_in_range w.result-is)
    ] in
    dense_judges g.A.Aggregate c.args.self.now s window known recorder c.args.set.now c.args.value (record { long = long; full = c.requires }) c.fits_at.result g.met.A.Aggregate.fits_in_range
    c.as_slice.result.now c.place-rank.result (c.as_slice.ensures.value ∙ ap (λ t. t.aggregates) c.self.view_is) c.place-rank.ensures.rank
    (subst (λ v. JudgesAt g.A.Aggregate c.as_slice.result.now c.place-rank.result v c.fits_at.result) (to_z-of_z w64 c.args.value in64) c.fits_at.ensures)
    ∙ told
