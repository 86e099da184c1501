-- Elements of which any two are apart.
use Rattle.std.proofs.Common.{◌∷◌, suc, List, arith}
use Rattle.std.specs.Prelude.{All, AllPairs}

-- the first is apart from each other one
pub AllPairs-head : {X : Type 0} (R : X → X → Type 0) (x : X) (xs : List X) → AllPairs R (x ∷ xs) → All (R x) xs
AllPairs-head R x xs all i d within = all 0 (suc i) d (omega arith) (omega arith)

-- the others are apart
pub AllPairs-tail : {X : Type 0} (R : X → X → Type 0) (x : X) (xs : List X) → AllPairs R (x ∷ xs) → AllPairs R xs
AllPairs-tail R x xs all i j d lt within = all (suc i) (suc j) d (omega arith) (omega arith)
