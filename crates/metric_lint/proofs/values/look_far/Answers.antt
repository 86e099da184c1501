-- either says it
use Rattle.std.proofs.Common.{◌≡◌, ◌∙◌, ◌||◌, ℤ, Bool, ap, of_z, sym, to_z, w64}
use Rattle.std.proofs.lemmas.Int.{to_z-of_z}
use Rattle.metric_lint.specs.Values.{are_most_outside, ends_before}
use Rattle.metric_lint.proofs.values.look_far.Goals as goal

pub returns-then-are_most_outside : goal.returns-then-are_most_outside
returns-then-are_most_outside c =
    let lo = c.args.lo in
    let hi = c.args.hi in
    let boundaries = c.args.boundaries.now in
    let is : c.are_most_outside.result ≡ are_most_outside lo hi boundaries =
    c.are_most_outside.ensures
    ∙ ap (λ (v : ℤ). are_most_outside v (to_z w64 (of_z w64 hi)) boundaries) (to_z-of_z w64 lo c.ranges.lo)
    ∙ ap (λ (v : ℤ). are_most_outside lo v boundaries) (to_z-of_z w64 hi c.ranges.hi) in
    c.if-are_most_outside.true ∙ ap (λ (b : Bool). b || ends_before hi boundaries) (sym (sym is ∙ c.if-are_most_outside.true))

pub returns-else-are_most_outside : goal.returns-else-are_most_outside
returns-else-are_most_outside c =
    let lo = c.args.lo in
    let hi = c.args.hi in
    let boundaries = c.args.boundaries.now in
    let is : c.are_most_outside.result ≡ are_most_outside lo hi boundaries =
    c.are_most_outside.ensures
    ∙ ap (λ (v : ℤ). are_most_outside v (to_z w64 (of_z w64 hi)) boundaries) (to_z-of_z w64 lo c.ranges.lo)
    ∙ ap (λ (v : ℤ). are_most_outside lo v boundaries) (to_z-of_z w64 hi c.ranges.hi) in
    c.ends_before.ensures ∙ ap (λ (v : ℤ). ends_before v boundaries) (to_z-of_z w64 hi c.ranges.hi)
    ∙ ap (λ (b : Bool). b || ends_before hi boundaries) (sym (sym is ∙ c.if-are_most_outside.false))
