-- what the greatest value is above zero is the step
use Rattle.std.proofs.Common.{◌≡◌, ℕ, ◌*◌, ◌≤◌, ◌^◌, ◌-◌, IsTrue, SFits, w64, sym, ap, subst, ◌∙◌, rules}
use Rattle.std.proofs.lemmas.Int.{to_z-of_z}
use Rattle.metric_bounds.specs.Safe.{HighFits}
use Rattle.metric_contents.specs.Most.{above}
use Rattle.metric_bounds.specs.MostLaws.{high_fits, high_fitted}
use Rattle.metric_lint.proofs.Numbers.{most_told, same_most}
use Rattle.metric_lint.proofs.headroom.most_by_high.Goals as goal

pub returns : goal.returns
returns c =
    let i = c.args.instrument.now in
    let step = c.above.result in
    let fits : SFits w64 i.hi = search rules in
    let is : step ≡ above i.hi = c.above.ensures ∙ ap above (to_z-of_z w64 i.hi fits) in
    same_most (λ t. t * step ≤ 2 ^ 63 - 1) (λ t. IsTrue c.args.is_summed → HighFits t i) c.most_within.result
    (λ t small summed. high_fits t i (subst (λ (b : ℕ). t * b ≤ 2 ^ 63 - 1) is small))
    (λ t fit. subst (λ (b : ℕ). t * b ≤ 2 ^ 63 - 1) (sym is) (high_fitted t i (fit c.if-not-is_summed.false)))
    (most_told (2 ^ 63 - 1) step c.most_within.result c.most_within.ensures)
