-- First faults of two lists, of which each element of one is due to have
-- its own in the other, in order.
use Rattle.std.specs.Prelude.{◌≡◌, ℕ, ◌+◌, List, [], ◌∷◌, Option, Some, None}
use Rattle.metric_bounds.specs.First.{Then}

-- What is found is told by another fault: one that is found, with what it is of.
pub record IsToldBy {F G : Type 0} (told : F → G) (Finds : Option F → Type 0) (other : G)
    : Type 0 where
  pub fault : F
  pub found : Finds (Some fault)
  pub is : other ≡ told fault

-- what is found, where each fault is told by another one
abbrev pub Told : {F G : Type 0} → (F → G) → (Option F → Type 0) → Option G → Type 0
Told told Finds None = Finds None
Told told Finds (Some other) = IsToldBy told Finds other

-- # first fault along two lists (profile) [EachPaired, Told]
-- What is found at the first pair that has a fault, or that an element is missing, or that there
-- are more; told with its place, of which the first is this one.
abbrev pub EachPaired : {X Y F G : Type 0} → (ℕ → F → G) → (X → Y → Option F → Type 0) → F → F
    → ℕ → List X → List Y → Option G → Type 0
EachPaired told Finds missing more n [] [] found = found ≡ None
EachPaired told Finds missing more n [] (y ∷ ys) found = found ≡ Some (told n more)
EachPaired told Finds missing more n (x ∷ xs) [] found = found ≡ Some (told n missing)
EachPaired told Finds missing more n (x ∷ xs) (y ∷ ys) found =
    Then (Told (told n) (Finds x y)) (EachPaired told Finds missing more (n + 1) xs ys) found
