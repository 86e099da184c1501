-- what the least value is below zero is the step
use Rattle.std.proofs.Common.{◌≡◌, ℕ, ◌*◌, ◌≤◌, ◌^◌, IsTrue, SFits, w64, sym, ap, subst, ◌∙◌, rules}
use Rattle.std.proofs.lemmas.Int.{to_z-of_z}
use Rattle.metric_bounds.specs.Safe.{LowFits}
use Rattle.metric_contents.specs.Most.{below}
use Rattle.metric_bounds.specs.MostLaws.{low_fits, low_fitted}
use Rattle.metric_lint.proofs.Numbers.{most_told, same_most}
use Rattle.metric_lint.proofs.headroom.most_by_low.Goals as goal

pub returns : goal.returns
returns c =
    let i = c.args.instrument.now in
    let step = c.below.result in
    let fits : SFits w64 i.lo = search rules in
    let is : step ≡ below i.lo = c.below.ensures ∙ ap below (to_z-of_z w64 i.lo fits) in
    same_most (λ t. t * step ≤ 2 ^ 63) (λ t. IsTrue c.args.is_summed → LowFits t i) c.most_within.result
    (λ t small summed. low_fits t i (subst (λ (b : ℕ). t * b ≤ 2 ^ 63) is small))
    (λ t fit. subst (λ (b : ℕ). t * b ≤ 2 ^ 63) (sym is) (low_fitted t i (fit c.if-not-is_summed.false)))
    (most_told (2 ^ 63) step c.most_within.result c.most_within.ensures)
