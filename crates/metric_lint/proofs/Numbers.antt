-- At how many recordings the numbers of an instrument stay within 64 bits.
use Rattle.std.proofs.Common.{◌≡◌, ℕ, ◌*◌, ◌/◌, ◌<◌, ◌≤◌, Bool, true, false, cond, Option, Some, None, refl, sym, subst, arith}
use Rattle.std.specs.Prelude.{◌==◌}
use Rattle.std.proofs.lemmas.Bool.Decides.{nat_tests}
use Rattle.std.proofs.Math.Nat.{le-div_iff_mul-le}
use Rattle.metric_contents.specs.Most.{most_within}
use Rattle.metric_lint.specs.Edges.{IsMost}

-- a fact that means the same
pub same_most : (P Q : ℕ → Type 0) (o : Option ℕ) → ((t : ℕ) → P t → Q t) → ((t : ℕ) → Q t → P t) → IsMost P o → IsMost Q o
same_most P Q None there back each = λ t. there t (each t)
same_most P Q (Some most) there back p = record { within = λ t le. there t (p.within t le); greatest = λ t q. p.greatest t (back t q) }

-- how many steps fit
no_step : (room step : ℕ) → step ≡ 0 → IsMost (λ t. t * step ≤ room) None
no_step room step zero_step t = let none : t * step ≡ 0 = rw zero_step (omega arith) in omega arith

some_steps : (room step : ℕ) → 0 < step → IsMost (λ t. t * step ≤ room) (Some (room / step))
some_steps room step some = record {
  within = λ t le. (le-div_iff_mul-le {k = step} {x = t} {y = room} some).0 le;
  greatest = λ t fits. (le-div_iff_mul-le {k = step} {x = t} {y = room} some).1 fits;
}

most_is : (room step : ℕ) → IsMost (λ t. t * step ≤ room) (most_within room step)
most_is room step = by (step == 0) refl
  where
    by : (b : Bool) → (step == 0) ≡ b → IsMost (λ t. t * step ≤ room) (cond b None (Some (room / step)))
    by true is = let zero_step : step ≡ 0 = grind (arith, nat_tests) in no_step room step zero_step
    by false is = let some : 0 < step = grind (arith, nat_tests) in some_steps room step some

pub most_told : (room step : ℕ) (o : Option ℕ) → o ≡ most_within room step → IsMost (λ t. t * step ≤ room) o
most_told room step o e = subst (IsMost (λ t. t * step ≤ room)) (sym e) (most_is room step)
