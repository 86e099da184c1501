-- The greatest number at which nothing is found.
use Rattle.std.specs.Prelude.{ℕ, ◌≤◌, ◌+◌, Option, Some, None}

-- Up to this number nothing is found, at no greater number is nothing
-- found, and at the next one this is.
pub record IsEdge {F : Type 0} (Finds : ℕ → Option F → Type 0) (most : ℕ) (fault : F) : Type 0 where
  pub safe : (total : ℕ) → total ≤ most → Finds total None
  pub greatest : (total : ℕ) → Finds total None → total ≤ most
  pub next : Finds (most + 1) (Some fault)

-- P holds of this number and of each below it, and of no greater one.
pub record IsGreatest (P : ℕ → Type 0) (most : ℕ) : Type 0 where
  pub within : (total : ℕ) → total ≤ most → P total
  pub greatest : (total : ℕ) → P total → total ≤ most

-- the greatest number of which P holds, or none where it holds of each
abbrev pub IsMost : (ℕ → Type 0) → Option ℕ → Type 0
IsMost P None = (total : ℕ) → P total
IsMost P (Some most) = IsGreatest P most
