-- Lists that are told one after the other.
use Rattle.std.proofs.Common.{◌≡◌, List, ◌++◌, Result, Ok, Err, append_assoc, ap, ◌∙◌}
use Rattle.std.specs.Prelude.{OnOk}

-- what follows from what a call did that did not fail
pub on_ok : {X E : Type 0} (r : Result X E) (P Q : Type 0) → (P → Q) → OnOk r P → OnOk r Q
on_ok (Ok x) P Q next p = next p
on_ok (Err e) P Q next p = p

pub two : {A : Type 0} (old a b m1 m2 : List A) → m1 ≡ old ++ a → m2 ≡ m1 ++ b → m2 ≡ old ++ (a ++ b)
two old a b m1 m2 e1 e2 = e2 ∙ ap (λ m. m ++ b) e1 ∙ append_assoc old a b

pub three : {A : Type 0} (old a b c m1 m2 m3 : List A) → m1 ≡ old ++ a → m2 ≡ m1 ++ b → m3 ≡ m2 ++ c → m3 ≡ old ++ (a ++ (b ++ c))
three old a b c m1 m2 m3 e1 e2 e3 = two old (a ++ b) c m2 m3 (two old a b m1 m2 e1 e2) e3 ∙ ap (λ xs. old ++ xs) (append_assoc a b c)
