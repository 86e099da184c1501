-- How the least and the greatest value of a list change with one value more.
use Rattle.std.proofs.Common.{◌≡◌, ℤ, List, [], ◌∷◌, ◌++◌, refl, ap, ◌∙◌, arith}
use Rattle.std.specs.Int.{int_min, int_max}
use Rattle.std.proofs.lemmas.Int.{ints, clamps}
use Rattle.metric_aggregate.specs.Value.{least_or, greatest_or}

int_min_assoc : (a b c : ℤ) → int_min a (int_min b c) ≡ int_min (int_min a b) c
int_min_assoc a b c = omega (arith, ints, clamps)

int_max_assoc : (a b c : ℤ) → int_max a (int_max b c) ≡ int_max (int_max a b) c
int_max_assoc a b c = omega (arith, ints, clamps)

pub least_or-push : (none : ℤ) (xs : List ℤ) (v : ℤ) → least_or none (xs ++ v ∷ []) ≡ int_min (least_or v xs) v
least_or-push none [] v = refl
least_or-push none (x ∷ []) v = omega (arith, ints, clamps)
least_or-push none (x ∷ y ∷ ys) v = ap (int_min x) (least_or-push x (y ∷ ys) v) ∙ int_min_assoc x (least_or v (y ∷ ys)) v

pub greatest_or-push : (none : ℤ) (xs : List ℤ) (v : ℤ) → greatest_or none (xs ++ v ∷ []) ≡ int_max (greatest_or v xs) v
greatest_or-push none [] v = refl
greatest_or-push none (x ∷ []) v = omega (arith, ints, clamps)
greatest_or-push none (x ∷ y ∷ ys) v = ap (int_max x) (greatest_or-push x (y ∷ ys) v) ∙ int_max_assoc x (greatest_or v (y ∷ ys)) v
