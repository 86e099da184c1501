-- what the table that is there answers
use Rattle.std.proofs.Common.{subst, rules, w64, SFits}
use Rattle.std.proofs.lemmas.Int.{to_z-of_z}
use Rattle.metric_series.specs.Calls.{JudgesValue}
use Rattle.metric_series.specs.Eithers.{Stands}
use Rattle.metric_series.proofs.either.EitherTable.fits.Goals as goal

pub returns-in-Left : goal.returns-in-Left
returns-in-Left g c = λ s window recorder stands.
    let in64 : SFits w64 c.args.value = search rules in
    subst (λ v. JudgesValue (g.A.Table.stands c.in-Left.table) c.args.set.now v c.fits.result) (to_z-of_z w64 c.args.value in64) c.fits.ensures
    s window recorder (subst (λ t. Stands g.A.Table g.B.Table t s window) c.in-Left.is stands)

pub returns-in-Right : goal.returns-in-Right
returns-in-Right g c = λ s window recorder stands.
    let in64 : SFits w64 c.args.value = search rules in
    subst (λ v. JudgesValue (g.B.Table.stands c.in-Right.table) c.args.set.now v c.fits-in-Right.result) (to_z-of_z w64 c.args.value in64) c.fits-in-Right.ensures
    s window recorder (subst (λ t. Stands g.A.Table g.B.Table t s window) c.in-Right.is stands)
