-- a key that stands again, or the next mistake
use Rattle.std.proofs.Common.{ap, w64, ℤ, map, sym, ◌∙◌}
use Rattle.std.proofs.lemmas.Int.{to_z-of_z}
use Rattle.metric_contents.specs.Attributes.{given_by}
use Rattle.metric_lint.specs.Explanations.{DuplicateKey, first_repeated, key_mistake, mistake_of}
use Rattle.metric_lint.proofs.Refusing.{found_first, found_later}
use Rattle.metric_lint.proofs.explanation.mistake_of.Goals as goal

pub returns-in-Some : goal.returns-in-Some
unfolding mistake_of
returns-in-Some c =
    let attrs = map given_by c.args.attrs.now in
    found_first (λ given. DuplicateKey given.0) (first_repeated attrs) (given_by c.in-Some.attr.now) (key_mistake c.args.instrument.now attrs c.args.is_combined c.args.value) (sym c.in-Some.ensures)

pub returns-in-None : goal.returns-in-None
unfolding mistake_of
returns-in-None c =
    let attrs = map given_by c.args.attrs.now in
    c.key_mistake.ensures ∙ ap (λ (v : ℤ). key_mistake c.args.instrument.now attrs c.args.is_combined v) (to_z-of_z w64 c.args.value c.ranges.value)
    ∙ found_later (λ given. DuplicateKey given.0) (first_repeated attrs) (key_mistake c.args.instrument.now attrs c.args.is_combined c.args.value) (sym c.in-None.ensures)
