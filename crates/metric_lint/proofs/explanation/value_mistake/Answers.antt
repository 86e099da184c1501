-- a value that is not declared, or the next mistake
use Rattle.std.proofs.Common.{w64, ℤ, find, map, not, sym, ap, ◌∙◌}
use Rattle.std.proofs.lemmas.Int.{to_z-of_z}
use Rattle.std.specs.Option.{option_map}
use Rattle.metric_contents.specs.Attributes.{given_by}
use Rattle.metric_contents.specs.Encoding.{Given, has_declared_value}
use Rattle.metric_lint.specs.Explanations.{UnknownValue, value_mistake, missing_mistake}
use Rattle.metric_lint.proofs.Mapped.{find-map}
use Rattle.metric_lint.proofs.Refusing.{found_first, found_later}
use Rattle.metric_lint.proofs.explanation.value_mistake.Goals as goal

pub returns-in-Some : goal.returns-in-Some
unfolding value_mistake
returns-in-Some c =
    let test = λ (given : Given). not (has_declared_value c.args.instrument.now.keys given) in
    let attrs = map given_by c.args.attrs.now in
    found_first (λ given. UnknownValue given.0 given.1) (find test attrs) (given_by c.in-Some.attr.now) (missing_mistake c.args.instrument.now attrs c.args.is_combined c.args.value)
    (find-map test given_by c.args.attrs.now ∙ ap (option_map given_by) (sym c.in-Some.ensures))

pub returns-in-None : goal.returns-in-None
unfolding value_mistake
returns-in-None c =
    let test = λ (given : Given). not (has_declared_value c.args.instrument.now.keys given) in
    let attrs = map given_by c.args.attrs.now in
    c.missing_mistake.ensures ∙ ap (λ (v : ℤ). missing_mistake c.args.instrument.now attrs c.args.is_combined v) (to_z-of_z w64 c.args.value c.ranges.value)
    ∙ found_later (λ given. UnknownValue given.0 given.1) (find test attrs) (missing_mistake c.args.instrument.now attrs c.args.is_combined c.args.value)
    (find-map test given_by c.args.attrs.now ∙ ap (option_map given_by) (sym c.in-None.ensures))
