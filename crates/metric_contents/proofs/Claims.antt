-- What is kept of names, with one name more.
use Rattle.std.proofs.Common.{◌≡◌, ℕ, Bool, true, false, cond, List, Option, Some, None, refl, sym, ap, ◌∙◌}
use Rattle.std.specs.Prelude.{is_some}
use Rattle.std.specs.Map.{update}
use Rattle.std.specs.Str.{bytes_eq}
use Rattle.std.specs.Cmp.Lexicographic.{nat_list_eq_equiv}
use Rattle.std.proofs.lemmas.Slice.Eq.{bytes_eq-Decides}
use Rattle.metric_contents.specs.PlaceLaws.{or_else}

or_nothing : (o : Option ℕ) → o ≡ or_else o None
or_nothing None = refl
or_nothing (Some p) = refl

-- a name that is new
pub new_claim : (first next : List ℕ → Option ℕ) (name other : List ℕ) (n : ℕ) → is_some (first name) ≡ false → next other ≡ update bytes_eq first name (Some n) other
    → next other ≡ or_else (first other) (cond (bytes_eq other name) (Some n) None)
new_claim first next name other n e set = set ∙ by (bytes_eq name other) refl
  where
    none : (o : Option ℕ) → is_some o ≡ false → o ≡ None
    none None e = refl
    none (Some p) e = absurd cc

    by : (b : Bool) → bytes_eq name other ≡ b → cond b (Some n) (first other) ≡ or_else (first other) (cond (bytes_eq other name) (Some n) None)
    by true same =
        let absent : first other ≡ None = ap first (sym ((bytes_eq-Decides name other).0 same)) ∙ none (first name) e in
        rw (absent, nat_list_eq_equiv.symm other name, same) refl
    by false same = rw (nat_list_eq_equiv.symm other name, same) (or_nothing (first other))
