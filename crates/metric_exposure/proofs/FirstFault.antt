-- The first fault of a list of lists.
use Rattle.std.proofs.Common.{◌≡◌, ℕ, zero, suc, ◌+◌, ◌<◌, Bool, true, false, cond, ◌&&◌, List, [], ◌∷◌, ◌++◌, Err, refl, ap, ◌∙◌, arith}
use Rattle.std.specs.List.{flat_map, range_with_len}
use Rattle.metric_exposure.specs.declared.fault.ExposureFault.{ExposureFault}
use Rattle.metric_exposure.specs.Exposures.{fault_if, first_of}
use Rattle.metric_exposure.proofs.Passing.{back_none, front_none}

first_from : (f : ℕ → List ExposureFault) (a m k : ℕ) (fault : ExposureFault) → flat_map f (range_with_len a k) ≡ [] → k < m → f (a + k) ≡ fault ∷ []
    → first_of (flat_map f (range_with_len a m)) ≡ Err fault
first_from f a zero k fault e less at = absurd (omega arith)
first_from f a (suc m) zero fault e less at =
    let same : a ≡ a + 0 = omega arith in
    ap (λ (fs : List ExposureFault). first_of (fs ++ flat_map f (range_with_len (a + 1) m))) (ap f same ∙ at)
first_from f a (suc m) (suc k) fault e less at =
    let same : a + 1 + k ≡ a + suc k = omega arith in
    let none = front_none (f a) (flat_map f (range_with_len (a + 1) k)) e in
    let rest = back_none (f a) (flat_map f (range_with_len (a + 1) k)) e in
    ap (λ (fs : List ExposureFault). first_of (fs ++ flat_map f (range_with_len (a + 1) m))) none
    ∙ first_from f (a + 1) m k fault rest (omega arith) (ap f same ∙ at)

pub first_found : (f : ℕ → List ExposureFault) (m k : ℕ) (fault : ExposureFault) → flat_map f (range_with_len 0 k) ≡ [] → k < m → f k ≡ fault ∷ []
    → first_of (flat_map f (range_with_len 0 m)) ≡ Err fault
first_found f m k fault e less at = let same : 0 + k ≡ k = omega arith in first_from f 0 m k fault e less (ap f same ∙ at)

-- one stream's fault, where it is the reader's
pub fault_there : (own test : Bool) (fault : ExposureFault) → (own && test) ≡ true → cond own (fault_if test fault) [] ≡ fault ∷ []
fault_there true true fault e = refl
fault_there true false fault e = absurd cc
fault_there false test fault e = absurd cc

pub fault_absent : (own test : Bool) (fault : ExposureFault) → (own && test) ≡ false → cond own (fault_if test fault) [] ≡ []
fault_absent true true fault e = absurd cc
fault_absent true false fault e = refl
fault_absent false test fault e = refl
