-- A test of what is seen of each element.
use Rattle.std.proofs.Common.{◌≡◌, Bool, ◌&&◌, ◌||◌, List, [], ◌∷◌, map, refl, ap}
use Rattle.std.specs.List.{list_all, list_any}

pub all_seen : {X Y : Type 0} (f : X → Y) (test : Y → Bool) (xs : List X)
    → list_all (λ x. test (f x)) xs ≡ list_all test (map f xs)
all_seen f test [] = refl
all_seen f test (x ∷ xs) = ap (λ b. test (f x) && b) (all_seen f test xs)

pub any_seen : {X Y : Type 0} (f : X → Y) (test : Y → Bool) (xs : List X)
    → list_any (λ x. test (f x)) xs ≡ list_any test (map f xs)
any_seen f test [] = refl
any_seen f test (x ∷ xs) = ap (λ b. test (f x) || b) (any_seen f test xs)

pub ruleset value_laws = (all_seen)
