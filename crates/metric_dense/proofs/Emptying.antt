-- Aggregates whose values are forgotten, one after the other.
use Rattle.std.proofs.Common.{◌≡◌, ℕ, ◌+◌, ◌<◌, ◌≤◌, ℤ, true, false, List, [], ◌∷◌, length, get_or, refl, sym, subst, ◌∙◌, arith, get_or-set_same, get_or-set_other, below_more}
use Rattle.std.specs.Prelude.{◌==◌}
use Rattle.std.proofs.Math.ListN.{set}
use Rattle.std.proofs.lemmas.Bool.{ne_eqb, true≢false}
use Rattle.std.proofs.lemmas.List.{get_or_default}
use Rattle.metric_aggregate.specs.declared.aggregate.Aggregate as aggregate
use Rattle.metric_dense.specs.DenseTables.{IsEmptied}

module _ {A P : Type 0} (by : aggregate.Ghosts A P) where
  -- those below an index are emptied, and the others are as they were
  pub record EmptiedTo (old now : List A) (i : ℕ) : Type 0 where
    pub below : (k : ℕ) → k < i → (d : A) → IsEmptied by (get_or old k d) (get_or now k d)
    pub rest : (k : ℕ) → i ≤ k → (d : A) → get_or now k d ≡ get_or old k d

  pub emptied_none : (old : List A) → EmptiedTo old old 0
  emptied_none old = record { below = λ k low d. absurd (omega arith); rest = λ k low d. refl }

  -- one more
  pub emptied_more : (old now : List A) (i : ℕ) (before after : A) → EmptiedTo old now i → i < length now → before ≡ get_or now i before → IsEmptied by before after
      → EmptiedTo old (set now i after) (i + 1)
  emptied_more old now i before after to inside is empty = record {
    below = below_more (λ k. (d : A) → IsEmptied by (get_or old k d) (get_or (set now i after) k d)) i
        (λ k low d. subst (λ (a : A). IsEmptied by (get_or old k d) a) (sym (get_or-set_other now i k after d (λ e. absurd (omega (arith, e, low))))) (to.below k low d))
        (λ d. subst (λ (a : A). IsEmptied by (get_or old i d) a) (sym (get_or-set_same now i after d inside))
        (subst (λ (a : A). IsEmptied by a after) (is ∙ get_or_default now i before d inside ∙ to.rest i (omega arith) d) empty));
    rest = λ k low d. get_or-set_other now i k after d (λ e. absurd (omega (arith, e, low))) ∙ to.rest k (omega (arith, low)) d;
  }

  -- an aggregate that is empty has no values to forget
  pub empty_forgets : ((a : A) (added : List ℤ) → by.stands a added → by.is_empty a ≡ (length added == 0)) → (a : A) → by.is_empty a ≡ true → IsEmptied by a a
  empty_forgets law a e = record { aggregation = refl; none = λ added stands. at added stands (sym e ∙ law a added stands) }
    where
      at : (added : List ℤ) → by.stands a added → true ≡ (length added == 0) → by.stands a []
      at [] stands e = stands
      at (x ∷ xs) stands e = absurd (true≢false (e ∙ some xs))
        where
          some : (xs : List ℤ) → (length (x ∷ xs) == 0) ≡ false
          some xs = ne_eqb (length (x ∷ xs)) 0 (λ h. omega (arith, h))
