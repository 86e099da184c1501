-- Things that become others, the last one first.
use Rattle.std.proofs.Common.{◌≡◌, List, ◌++◌, reverse}
use Rattle.std.specs.List.{AllZip}

-- Of these the first are left, and the others have become these, the last one first.
pub record IsTurned {A B : Type 0} (turns : A → B → Type 0) (all left : List A) (done : List B) : Type 0 where
  pub rest : List A
  pub parts : all ≡ left ++ rest
  pub each : AllZip turns rest (reverse done)
