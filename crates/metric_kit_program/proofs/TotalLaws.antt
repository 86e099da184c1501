-- What is pushed of a total.
use Rattle.std.proofs.Common.{◌≡◌, ℕ, List, ◌++◌, Result, Ok, Err, OnOk, ap, ◌∙◌, append_assoc}

-- the last of three texts that are pushed
pub third_pushed : {X E : Type 0} (r : Result X E) (none one two three first second third : List ℕ)
    → one ≡ none ++ first → two ≡ one ++ second → OnOk r (three ≡ two ++ third) → OnOk r (three ≡ none ++ (first ++ (second ++ third)))
third_pushed (Ok done) none one two three first second third p q t =
    t ∙ ap (λ l. l ++ third) (q ∙ ap (λ l. l ++ second) p) ∙ append_assoc (none ++ first) second third ∙ append_assoc none first (second ++ third)
third_pushed (Err fault) none one two three first second third p q t = tt
