-- What is appended to a sink that kept its bytes before.
use Rattle.std.proofs.Common.{ℕ, List, ◌++◌, Option, None, Some, ap, ◌∙◌}
use Rattle.std.specs.Io.KnownBytes.{Appends, Keeps}

pub Keeps-appends : (a b c : Option (List ℕ)) (bs : List ℕ) → Keeps a b → Appends b c bs → Appends a c bs
Keeps-appends None b c bs kept more = tt
Keeps-appends (Some xs) None c bs kept more = absurd kept
Keeps-appends (Some xs) (Some ys) None bs kept more = more
Keeps-appends (Some xs) (Some ys) (Some zs) bs kept more = more ∙ ap (λ l. l ++ bs) kept
