-- both say it
use Rattle.std.proofs.Common.{◌≡◌, ◌∙◌, ◌&&◌, ℤ, Bool, ap, of_z, sym, to_z, w64}
use Rattle.std.proofs.lemmas.Int.{to_z-of_z}
use Rattle.metric_lint.specs.Values.{are_far, look_far, tell_apart}
use Rattle.metric_lint.proofs.values.are_far.Goals as goal

pub returns-then-tell_apart : goal.returns-then-tell_apart
unfolding are_far
returns-then-tell_apart c =
    let lo = c.args.lo in
    let hi = c.args.hi in
    let boundaries = c.args.boundaries.now in
    let is : c.tell_apart.result ≡ tell_apart lo hi boundaries =
    c.tell_apart.ensures
    ∙ ap (λ (v : ℤ). tell_apart v (to_z w64 (of_z w64 hi)) boundaries) (to_z-of_z w64 lo c.ranges.lo)
    ∙ ap (λ (v : ℤ). tell_apart lo v boundaries) (to_z-of_z w64 hi c.ranges.hi) in
    c.look_far.ensures
    ∙ ap (λ (v : ℤ). look_far v (to_z w64 (of_z w64 hi)) boundaries) (to_z-of_z w64 lo c.ranges.lo)
    ∙ ap (λ (v : ℤ). look_far lo v boundaries) (to_z-of_z w64 hi c.ranges.hi)
    ∙ ap (λ (b : Bool). b && look_far lo hi boundaries) (sym (sym is ∙ c.if-tell_apart.true))

pub returns-else-tell_apart : goal.returns-else-tell_apart
unfolding are_far
returns-else-tell_apart c =
    let lo = c.args.lo in
    let hi = c.args.hi in
    let boundaries = c.args.boundaries.now in
    let is : c.tell_apart.result ≡ tell_apart lo hi boundaries =
    c.tell_apart.ensures
    ∙ ap (λ (v : ℤ). tell_apart v (to_z w64 (of_z w64 hi)) boundaries) (to_z-of_z w64 lo c.ranges.lo)
    ∙ ap (λ (v : ℤ). tell_apart lo v boundaries) (to_z-of_z w64 hi c.ranges.hi) in
    c.if-tell_apart.false ∙ ap (λ (b : Bool). b && look_far lo hi boundaries) (sym (sym is ∙ c.if-tell_apart.false))
