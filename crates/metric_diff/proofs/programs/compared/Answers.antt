-- what is compared is the old instrument
use Rattle.std.proofs.Common.{◌∙◌, ap, length, map, refl, subst, sym}
use Rattle.metric_contents.specs.Attributes.{given_by}
use Rattle.metric_meaning.specs.Meanings.{Means, Shape}
use Rattle.metric_diff.specs.Programs.{meter_of}
use Rattle.metric_diff.proofs.ProgramLaws.{shape_is}
use Rattle.metric_diff.proofs.programs.compared.Goals as goal

pub returns-in-None : goal.returns-in-None
returns-in-None c =
    let own = c.args.instrument.now in
    let e = shape_is c.meter_of.result.now (meter_of c.args.old.now own) own (length c.args.old.now.meters) (map given_by c.as_slice.result.now) _ c.requires
    c.expected_of-expected.ensures (ap (map given_by) c.as_slice.ensures.value ∙ c.in_ok-keys.ensures) c.meter_of.ensures in
    (refl, subst (λ (s : Shape). Means c.args.new.now c.args.place s) e c.in-None.ensures.means)

pub returns : goal.returns
returns c means =
    let own = c.args.instrument.now in
    let e = shape_is c.meter_of.result.now (meter_of c.args.old.now own) own (length c.args.old.now.meters) (map given_by c.as_slice.result.now) _ c.requires
    c.expected_of-expected.ensures (ap (map given_by) c.as_slice.ensures.value ∙ c.in_ok-keys.ensures) c.meter_of.ensures in
    c.in-Some.ensures.means (subst (λ (s : Shape). Means c.args.new.now c.args.place s) (sym e) means)
