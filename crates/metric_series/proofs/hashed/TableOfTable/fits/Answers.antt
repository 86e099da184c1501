-- whether a place was found
use Rattle.std.proofs.Common.{sym, ap, ◌∙◌, rules, w64, SFits}
use Rattle.std.proofs.lemmas.Int.{to_z-of_z}
use Rattle.metric_combinations.specs.Restrictions.{restricted}
use Rattle.metric_series.specs.Calls.{entry_of}
use Rattle.metric_series.proofs.hashed.TableOfTable.fits.Goals as goal

pub returns : goal.returns
returns g c = λ s window recorder stands.
    let in64 : SFits w64 c.args.value = search rules in
    c.find.ensures.in_range s window (entry_of recorder c.args.set.now c.args.value) stands
    (c.key.ensures ∙ ap (λ kept. restricted kept c.args.set.now) stands.kept) (to_z-of_z w64 c.args.value in64)
    ∙ sym c.is_some.ensures
