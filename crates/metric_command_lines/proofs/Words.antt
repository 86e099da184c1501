-- What is asked of texts that are lent is asked of the texts.
use Rattle.std.proofs.Common.{◌≡◌, refl, ap, Bool, ◌||◌, List, [], ◌∷◌, map}
use Rattle.std.specs.Borrow.{Bor}
use Rattle.std.specs.List.{list_any}
use Rattle.clap.specs.Words.{Text}

pub any_lent : (test : Text → Bool) (words : List (Bor Text)) → list_any (λ (w : Bor Text). test w.now) words ≡ list_any test (map (λ w. w.now) words)
any_lent test [] = refl
any_lent test (word ∷ words) = ap (λ (b : Bool). test word.now || b) (any_lent test words)
