-- Laws of first faults: there is one answer only, and nothing is found exactly where nothing fails.
use Rattle.std.proofs.Common.{◌≡◌, List, [], ◌∷◌, All, Option, Some, None, inl, inr, refl, sym, ◌∙◌}
use Rattle.std.proofs.lemmas.List.Elements.{All-cons, All-head, All-nil, All-tail}
use Rattle.metric_bounds.specs.First.{Asks, Then, Each}

-- Nothing and a fault are not found together, and no two faults are.
pub record IsSingle {F : Type 0} (Finds : Option F → Type 0) : Type 0 where
  pub alone : (fault : F) → Finds None → Finds (Some fault) → ⊥
  pub same : (fault other : F) → Finds (Some fault) → Finds (Some other) → fault ≡ other

pub Asks-IsSingle : {F : Type 0} (P : Type 0) (fault : F) → IsSingle (Asks P fault)
Asks-IsSingle P fault = record { alone = λ f p q. q.0 p; same = λ f g p q. p.1 ∙ sym q.1 }

pub Then-IsSingle : {F : Type 0} (First Second : Option F → Type 0) → IsSingle First
    → IsSingle Second → IsSingle (Then First Second)
Then-IsSingle {F = F} First Second one two = record { alone = alone; same = same }
  where
    alone : (fault : F) → Then First Second None → Then First Second (Some fault) → ⊥
    alone fault p (inl q) = one.alone fault p.0 q
    alone fault p (inr q) = two.alone fault p.1 q.1

    same : (fault other : F) → Then First Second (Some fault) → Then First Second (Some other)
        → fault ≡ other
    same fault other (inl p) (inl q) = one.same fault other p q
    same fault other (inl p) (inr q) = absurd (one.alone fault q.0 p)
    same fault other (inr p) (inl q) = absurd (one.alone other p.0 q)
    same fault other (inr p) (inr q) = two.same fault other p.1 q.1

pub Each-IsSingle : {X F : Type 0} (Finds : X → Option F → Type 0) → ((x : X) → IsSingle (Finds x))
    → (xs : List X) → IsSingle (Each Finds xs)
Each-IsSingle Finds single [] = record { alone = λ f p q. absurd cc; same = λ f g p q. absurd cc }
Each-IsSingle Finds single (x ∷ xs) =
    Then-IsSingle (Finds x) (Each Finds xs) (single x) (Each-IsSingle Finds single xs)

-- Nothing is found in a list exactly where nothing is found at each element.
pub Each-none : {X F : Type 0} (Finds : X → Option F → Type 0) (xs : List X) → Each Finds xs None
    → All (λ x. Finds x None) xs
Each-none Finds [] p = All-nil (λ x. Finds x None)
Each-none Finds (x ∷ xs) p = All-cons (λ x. Finds x None) x xs p.0 (Each-none Finds xs p.1)

pub none-Each : {X F : Type 0} (Finds : X → Option F → Type 0) (xs : List X)
    → All (λ x. Finds x None) xs → Each Finds xs None
none-Each Finds [] p = refl
none-Each Finds (x ∷ xs) p =
    (All-head (λ x. Finds x None) x xs p, none-Each Finds xs (All-tail (λ x. Finds x None) x xs p))
