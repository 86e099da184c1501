-- what is told, and that it is told of the refusal
use Rattle.std.proofs.Common.{◌≡◌, Bool, List, Result, ℕ, ℤ, w64, map, slice_get, ap, ◌∙◌}
use Rattle.std.proofs.lemmas.Int.{to_z-of_z}
use Rattle.std.specs.Option.{option_map}
use Rattle.metric_contents.specs.Attributes.{given_by}
use Rattle.metric_contents.specs.declared.contents.Instrument.{Instrument}
use Rattle.metric_contents.specs.declared.refusal.Refusal.{Refusal}
use Rattle.metric_lint.specs.Explanations.{explained, explained_with, is_combined, refusal_of, told_of}
use Rattle.metric_lint.proofs.Refusing.{explains}
use Rattle.metric_lint.proofs.explanation.explain_refusal.Goals as goal

pub returns-clause-told : goal.returns-clause-told
returns-clause-told c =
    let instruments = c.args.catalogue.now.instruments in
    let number = c.args.instrument in
    let attrs = map given_by c.args.attrs.now in
    c.explained.ensures
    ∙ ap (λ (v : ℤ). explained_with number (slice_get c.instruments.result.now number) attrs c.is_combined-is_combined.result v) (to_z-of_z w64 c.args.value c.ranges.value)
    ∙ ap (λ (is : List Instrument). explained_with number (slice_get is number) attrs c.is_combined-is_combined.result c.args.value) c.instruments.ensures.instruments
    ∙ ap (λ (b : Bool). explained_with number (slice_get instruments number) attrs b c.args.value)
    (c.is_combined-is_combined.ensures ∙ ap (λ (r : Result (List ℕ) Refusal). is_combined r) c.encode.ensures)

pub returns-clause-agrees : goal.returns-clause-agrees
returns-clause-agrees c =
    let instruments = c.args.catalogue.now.instruments in
    let number = c.args.instrument in
    let attrs = map given_by c.args.attrs.now in
    let told : option_map told_of c.explained.result ≡ explained instruments number attrs c.args.value =
    c.explained.ensures
    ∙ ap (λ (v : ℤ). explained_with number (slice_get c.instruments.result.now number) attrs c.is_combined-is_combined.result v) (to_z-of_z w64 c.args.value c.ranges.value)
    ∙ ap (λ (is : List Instrument). explained_with number (slice_get is number) attrs c.is_combined-is_combined.result c.args.value) c.instruments.ensures.instruments
    ∙ ap (λ (b : Bool). explained_with number (slice_get instruments number) attrs b c.args.value)
    (c.is_combined-is_combined.ensures ∙ ap (λ (r : Result (List ℕ) Refusal). is_combined r) c.encode.ensures) in
    ap (option_map refusal_of) told ∙ explains instruments number attrs c.args.value
