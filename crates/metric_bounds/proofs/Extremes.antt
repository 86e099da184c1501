-- The least and the greatest sum of so many values: a u64 times an i64, as the product of two i128.
use borrow.Author.Differences.{down, read_fits, up}
use lib.Signed.{mag}
use mir.Syntax.{w128}
use Rattle.std.proofs.Common.{◌≡◌, ℕ, zero, suc, ◌+◌, ◌-◌, ◌*◌, ◌^◌, ◌<◌, ◌≤◌, ℤ, pos, negsuc, neg_ℤ, ◌*ℤ◌, SFits, Fits, to_z, of_z, w64, refl, ap, subst, sym, ◌∙◌, arith}
use Rattle.std.proofs.Math.Nat.{mul-le-mul}
use Rattle.std.proofs.lemmas.Int.{to_z-of_z}

mag_of_negated : (n : ℕ) → mag (neg_ℤ (pos n)) ≡ n - 1
mag_of_negated zero = refl
mag_of_negated (suc n) = omega arith

in_range : (value : ℤ) → up value < down value + 2 ^ 63 → down value ≤ up value + 2 ^ 63 → mag value < 2 ^ 63
in_range (pos n) above below = omega (arith, above)
in_range (negsuc n) above below = omega (arith, below)

product_fits : (total : ℕ) (value : ℤ) → total < 2 ^ 64 → mag value < 2 ^ 63 → SFits w128 (pos total *ℤ value)
product_fits total (pos n) few small =
    let many : total ≤ 2 ^ 64 - 1 = omega (arith, few) in
    let far : n ≤ 2 ^ 63 = omega (arith, small) in
    record { sfits = omega (arith, mul-le-mul many far) }
product_fits total (negsuc n) few small =
    let many : total ≤ 2 ^ 64 - 1 = omega (arith, few) in
    let far : suc n ≤ 2 ^ 63 = omega (arith, small) in
    record { sfits = omega (arith, mul-le-mul many far, mag_of_negated (total * suc n)) }

module _ (total n : ℕ) (left right : ℤ) (is_left : left ≡ pos total) (is_right : right ≡ to_z w64 n)
    (few : Fits w64 total) (left_fits : mag left < 2 ^ 127) (right_fits : mag right < 2 ^ 127) where
  same : to_z w128 (of_z w128 left) *ℤ to_z w128 (of_z w128 right) ≡ pos total *ℤ right
  same =
      ap (λ (z : ℤ). z *ℤ to_z w128 (of_z w128 right)) (to_z-of_z w128 left (record { sfits = left_fits }) ∙ is_left)
      ∙ ap (λ (z : ℤ). pos total *ℤ z) (to_z-of_z w128 right (record { sfits = right_fits }))

  small : mag right < 2 ^ 63
  small = subst (λ (z : ℤ). mag z < 2 ^ 63) (sym is_right) (in_range (to_z w64 n) (read_fits w64 n).0 (read_fits w64 n).1)

  pub extreme_fits : SFits w128 (to_z w128 (of_z w128 left) *ℤ to_z w128 (of_z w128 right))
  extreme_fits = subst (λ (z : ℤ). SFits w128 z) (sym same) (product_fits total right few.fits small)

  pub extreme_is : to_z w128 (of_z w128 (to_z w128 (of_z w128 left) *ℤ to_z w128 (of_z w128 right))) ≡ pos total *ℤ right
  extreme_is = to_z-of_z w128 (to_z w128 (of_z w128 left) *ℤ to_z w128 (of_z w128 right)) extreme_fits ∙ same
