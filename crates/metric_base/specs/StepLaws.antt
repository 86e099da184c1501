-- Laws of steps that may fail, over plain variables.
use Rattle.std.proofs.Common.{◌≡◌, Bool, true, false, List, [], ◌∷◌, Option, Some, None, Result, Ok}
use Rattle.std.proofs.Common.{Err, refl, subst}
use Rattle.metric_base.specs.Steps.{◌>>=◌, require, require_none, in_turn}

-- a step that did not fail, with its value and the rest
pub after_ok : {A B E P : Type 0} (r : Result A E) (f : A → Result B E) (y : B) → (r >>= f) ≡ Ok y
    → ((x : A) → r ≡ Ok x → f x ≡ Ok y → P) → P
after_ok (Ok x) f y e rest = rest x refl e
after_ok (Err d) f y e rest = absurd cc

-- a test that did not fail
pub require_ok : {B E : Type 0} (b : Bool) (d : E) (f : Unit {0} → Result B E) (y : B)
    → (require b d >>= f) ≡ Ok y → (b ≡ true) × (f tt ≡ Ok y)
require_ok true d f y e = (refl, e)
require_ok false d f y e = absurd cc

pub require_none_ok : {A B E : Type 0} (o : Option A) (d : A → E) (f : Unit {0} → Result B E)
    (y : B) → (require_none o d >>= f) ≡ Ok y → (o ≡ None) × (f tt ≡ Ok y)
require_none_ok None d f y e = (refl, e)
require_none_ok (Some x) d f y e = absurd cc

-- the value of an answer
pub ok_is : {A E : Type 0} (x y : A) (r : Result A E) → r ≡ Ok x → r ≡ Ok y → x ≡ y
ok_is x y r p q = cc

-- a fact that each step keeps holds in the end
pub in_turn_keeps : {S X E : Type 0} (P : S → Type 0) (step : S → X → Result S E)
    → ((s : S) (x : X) (t : S) → step s x ≡ Ok t → P s → P t)
    → (s : S) (xs : List X) (t : S) → in_turn step s xs ≡ Ok t → P s → P t
in_turn_keeps P step keeps s [] t e p = subst P (ok_is s t (Ok s) refl e) p
in_turn_keeps P step keeps s (x ∷ xs) t e p =
    after_ok (step s x) _ t e
    (λ u made rest. in_turn_keeps P step keeps u xs t rest (keeps s x u made p))
