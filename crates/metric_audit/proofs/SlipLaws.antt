-- Where the slips of a recorder end.
use Rattle.std.proofs.Common.{◌≡◌, ℕ, zero, suc, ◌≤◌, List, [], ◌∷◌, Option, Some, length, drop, sym, subst, arith}
use Rattle.std.specs.Prelude.{◌↔◌, IsTrue, nat_le}
use Rattle.std.proofs.lemmas.Bool.Decides.{nat_tests}
use Rattle.std.proofs.lemmas.List.{drop_all}
use Rattle.metric_audit.specs.Slips.{Awaits}
use Rattle.metric_history.specs.declared.slip.Slip.{Slip}

nothing-cons : (x : Slip) (xs : List Slip) → x ∷ xs ≡ [] → ⊥
nothing-cons x xs e = cc

-- the slips end at a place
pub ends-at : (slips : List Slip) (at : ℕ) → length slips ≤ at → [] ≡ drop at slips
ends-at slips at past = sym (drop_all at slips past)

pub goes-on-at : (slips : List Slip) (at : ℕ) → [] ≡ drop at slips → length slips ≤ at
goes-on-at [] at e = omega arith
goes-on-at (x ∷ slips) zero e = absurd (nothing-cons x slips (sym e))
goes-on-at (x ∷ slips) (suc at) e = let rest = goes-on-at slips at e in omega arith

pub end-says : (slips : List Slip) (place : Option ℕ) (at : ℕ) → place ≡ Some at → IsTrue (nat_le (length slips) at) ↔ Awaits place slips []
end-says slips place at is =
    subst (λ (p : Option ℕ). IsTrue (nat_le (length slips) at) ↔ Awaits p slips []) (sym is)
    (λ (past : IsTrue (nat_le (length slips) at)). ends-at slips at (past-end past), λ (e : [] ≡ drop at slips). test-past (goes-on-at slips at e))
  where
    past-end : IsTrue (nat_le (length slips) at) → length slips ≤ at
    past-end e = grind (arith, nat_tests)

    test-past : length slips ≤ at → IsTrue (nat_le (length slips) at)
    test-past h = grind (arith, nat_tests)
