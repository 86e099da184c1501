-- Laws of written lists, and what loops that append take.
use Rattle.std.proofs.Common.{◌≡◌, ℕ, List, [], ◌∷◌, ◌++◌, refl, ap, append_assoc}
use Rattle.std.specs.List.{flat_map}
use Rattle.std.proofs.lemmas.List.{flat_map_more}
use Rattle.metric_text.specs.Lists.{joined, led_by}

pub ruleset steps = (append_assoc, flat_map_more)

-- with a comma before each
led_by_comma : {X : Type 0} (text : X → List ℕ) (xs : List X)
    → led_by (44 ∷ []) text xs ≡ flat_map (λ x. 44 ∷ text x) xs
led_by_comma text [] = refl
led_by_comma text (x ∷ xs) = ap (λ ys. 44 ∷ (text x ++ ys)) (led_by_comma text xs)

-- with commas between
pub joined_is_led : {X : Type 0} (text : X → List ℕ) (xs : List X)
    → joined text xs ≡ led_by [] text xs
joined_is_led text [] = refl
joined_is_led text (x ∷ xs) = rw (led_by_comma text xs) refl
