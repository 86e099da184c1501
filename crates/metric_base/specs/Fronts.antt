-- Where a list stops being the beginning of a whole one. `IsWhole` says which lists are whole.
use Rattle.std.specs.Prelude.{◌≡◌, ℕ, List, [], ◌∷◌, ◌++◌, length}

-- # beginning of a whole list (profile)
-- Elements with which some whole list begins; a test says which lists are whole.
pub record BeginsWhole {X : Type 0} (IsWhole : List X → Type 0) (front : List X) : Type 0 where
  pub more : List X
  pub is_whole : IsWhole (front ++ more)

-- No whole list goes on after the front with the first of the rest. Where nothing
-- is left, the front is not whole.
abbrev pub IsStuck : {X : Type 0} → (List X → Type 0) → List X → List X → Type 0
IsStuck IsWhole front [] = IsWhole front → ⊥
IsStuck IsWhole front (x ∷ rest) = BeginsWhole IsWhole (front ++ x ∷ []) → ⊥

-- # place where a list breaks off (profile)
-- The first element with which no whole list goes on; where the elements begin a whole list and are
-- none, the place after the last.
pub record BreaksOffAt {X : Type 0} (IsWhole : List X → Type 0) (xs : List X) (place : ℕ)
    : Type 0 where
  pub before : List X
  pub rest : List X
  pub whole : xs ≡ before ++ rest
  pub at : place ≡ length before
  pub begun : BeginsWhole IsWhole before
  pub stuck : IsStuck IsWhole before rest
