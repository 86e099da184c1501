-- the aggregate of the set's rank has the recordings of its series
use Rattle.std.proofs.Common.{◌≡◌, length, ap, subst, ◌∙◌, rules, w64, SFits}
use Rattle.std.proofs.lemmas.Int.{to_z-of_z}
use Rattle.metric_dense.specs.DenseTables.{JudgesAt}
use Rattle.metric_dense.proofs.Taking.{dense_judges}
use Rattle.metric_dense.proofs.dense_of.DenseOfTable.fits.Goals as goal

pub returns : goal.returns
returns g c = λ s window recorder known.
    let in64 : SFits w64 c.args.value = search rules in
    let long : length c.args.set.now ≡ 8 = search rules in
    dense_judges g.A.Aggregate c.args.self.now s window known recorder c.args.set.now c.args.value (record { long = long; full = c.requires }) c.fits_at.result g.met.A.Aggregate.fits_in_range
    c.as_slice.result.now c.place.result (c.as_slice.ensures.value ∙ ap (λ t. t.aggregates) c.self.view_is) c.place.ensures.rank
    (subst (λ v. JudgesAt g.A.Aggregate c.as_slice.result.now c.place.result v c.fits_at.result) (to_z-of_z w64 c.args.value in64) c.fits_at.ensures)
