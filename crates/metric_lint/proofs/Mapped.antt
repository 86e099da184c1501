-- A test over attributes is the same test over what they give.
use Rattle.std.proofs.Common.{◌≡◌, Bool, true, false, cond, ◌||◌, List, [], ◌∷◌, map, Some, find, refl, ap}
use Rattle.std.specs.List.{list_any}
use Rattle.std.specs.Option.{option_map}

pub list_any-map : {X Y : Type 0} (p : X → Bool) (h : Y → X) (ys : List Y) → list_any p (map h ys) ≡ list_any (λ y. p (h y)) ys
list_any-map p h [] = refl
list_any-map p h (y ∷ ys) = ap (λ b. p (h y) || b) (list_any-map p h ys)

pub find-map : {X Y : Type 0} (p : X → Bool) (h : Y → X) (ys : List Y) → find p (map h ys) ≡ option_map h (find (λ y. p (h y)) ys)
find-map p h [] = refl
find-map p h (y ∷ ys) = by (p (h y)) (find-map p h ys)
  where
    by : (b : Bool) → find p (map h ys) ≡ option_map h (find (λ z. p (h z)) ys) → cond b (Some (h y)) (find p (map h ys)) ≡ option_map h (cond b (Some y) (find (λ z. p (h z)) ys))
    by true e = refl
    by false e = e

pub ruleset maps = (list_any-map)
