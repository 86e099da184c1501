-- the width of the range is the step
use Rattle.std.proofs.Common.{◌≡◌, ◌*◌, ◌≤◌, ◌^◌, ◌-◌, ℤ, pos, ◌-ℤ◌, SFits, to_z, of_z, w64, sym, ap, ◌∙◌, rules}
use Rattle.std.specs.Prelude.{unsigned_abs}
use Rattle.std.proofs.lemmas.Int.{to_z-of_z}
use Rattle.metric_bounds.specs.Safe.{AmountsFit}
use Rattle.metric_bounds.specs.MostLaws.{amount_fits, amount_fitted, width_is}
use Rattle.metric_lint.proofs.Numbers.{most_told, same_most}
use Rattle.metric_lint.proofs.headroom.most_by_amount.Goals as goal

pub returns : goal.returns
returns c =
    let i = c.args.instrument.now in
    let w = c.abs_diff.result in
    let lo_fits : SFits w64 i.lo = search rules in
    let hi_fits : SFits w64 i.hi = search rules in
    let is : w ≡ unsigned_abs (i.hi -ℤ i.lo) =
    c.abs_diff.ensures ∙ ap (λ (z : ℤ). unsigned_abs (z -ℤ to_z w64 (of_z w64 i.lo))) (to_z-of_z w64 i.hi hi_fits) ∙ ap (λ (z : ℤ). unsigned_abs (i.hi -ℤ z)) (to_z-of_z w64 i.lo lo_fits) in
    let wide : i.hi -ℤ i.lo ≡ pos w = width_is i.lo i.hi c.requires ∙ ap pos (sym is) in
    same_most (λ t. t * w ≤ 2 ^ 64 - 1) (λ t. AmountsFit t i) c.most_within.result (λ t fits. amount_fits t w i wide fits) (λ t fits. amount_fitted t w i wide fits) (most_told (2 ^ 64 - 1) w c.most_within.result c.most_within.ensures)
