-- a key that is not declared, or the next mistake
use Rattle.std.proofs.Common.{w64, ℤ, find, map, not, sym, ap, ◌∙◌}
use Rattle.std.proofs.lemmas.Int.{to_z-of_z}
use Rattle.std.specs.Option.{option_map}
use Rattle.metric_contents.specs.Attributes.{given_by}
use Rattle.metric_contents.specs.Encoding.{Given, is_declared}
use Rattle.metric_lint.specs.Explanations.{UnknownKey, key_mistake, value_mistake}
use Rattle.metric_lint.proofs.Mapped.{find-map}
use Rattle.metric_lint.proofs.Refusing.{found_first, found_later}
use Rattle.metric_lint.proofs.explanation.key_mistake.Goals as goal

pub returns-in-Some : goal.returns-in-Some
unfolding key_mistake
returns-in-Some c =
    let test = λ (given : Given). not (is_declared c.args.instrument.now.keys given) in
    let attrs = map given_by c.args.attrs.now in
    found_first (λ given. UnknownKey given.0) (find test attrs) (given_by c.in-Some.attr.now) (value_mistake c.args.instrument.now attrs c.args.is_combined c.args.value)
    (find-map test given_by c.args.attrs.now ∙ ap (option_map given_by) (sym c.in-Some.ensures))

pub returns-in-None : goal.returns-in-None
unfolding key_mistake
returns-in-None c =
    let test = λ (given : Given). not (is_declared c.args.instrument.now.keys given) in
    let attrs = map given_by c.args.attrs.now in
    c.value_mistake.ensures ∙ ap (λ (v : ℤ). value_mistake c.args.instrument.now attrs c.args.is_combined v) (to_z-of_z w64 c.args.value c.ranges.value)
    ∙ found_later (λ given. UnknownKey given.0) (find test attrs) (value_mistake c.args.instrument.now attrs c.args.is_combined c.args.value)
    (find-map test given_by c.args.attrs.now ∙ ap (option_map given_by) (sym c.in-None.ensures))
