-- The place that is found for a value, and what is written there.
use Rattle.std.proofs.Common.{◌≡◌, ℕ, zero, suc, ◌<◌, Bool, true, false, cond, List, [], ◌∷◌, ◌++◌, Option, Some, None, Ok, length, get_or, refl, sym, ap, subst, ◌∙◌, arith}
use Rattle.std.specs.Prelude.{IfSome, position, slice_get, is_some}
use Rattle.std.specs.Option.{ok_or}
use Rattle.std.specs.Map.{keys_of, values_of, lookup, set_value}
use Rattle.std.proofs.lemmas.List.Quantifiers.{position-Some}
use Rattle.indexmap.specs.IndexMap.{set_value_at}
use Rattle.metric_series.specs.declared.place.Place.{Place}

-- a place that is answered where a value fits
pub placed : (result : Option Place) (place : Place) (fits : Bool) (P : Place → Type 0) → fits ≡ is_some result
    → IfSome result (λ found. found ≡ place) → (fits ≡ true → P place) → IfSome result P
placed (Some found) place fits P range same then = subst P (sym same) (then range)
placed None place fits P range same then = tt

-- what is known of a place that was found
pub found_place : {E : Type 0} (result : Option Place) (e : E) (place : Place) (P : Place → Type 0) → ok_or result e ≡ Ok place → IfSome result P → P place
found_place (Some found) e place P is known = let same : found ≡ place = cc in subst P same known
found_place None e place P is known = absurd cc

module _ {A : Type 0} where
  -- what is written at the first index of a key is written at the key
  written_first : (test : List ℕ → Bool) (es : List (List ℕ × A)) (i : ℕ) (w : A) (d : List ℕ) → i < length (keys_of es) → test (get_or (keys_of es) i d) ≡ true
      → ((k : ℕ) → k < i → test (get_or (keys_of es) k d) ≡ false) → set_value_at es i w ≡ set_value test es w
  written_first test [] i w d below own others = absurd (omega arith)
  written_first test (e ∷ es) zero w d below own others = sym (ap (λ (b : Bool). cond b ((e.0, w) ∷ es) (e ∷ set_value test es w)) own)
  written_first test (e ∷ es) (suc i) w d below own others =
      ap (λ (rest : List (List ℕ × A)). e ∷ rest) (written_first test es i w d (omega (arith, below)) own (λ k l. others (suc k) (omega (arith, l))))
      ∙ sym (ap (λ (b : Bool). cond b ((e.0, w) ∷ es) (e ∷ set_value test es w)) (others zero (omega arith)))

  pub written_at : (test : List ℕ → Bool) (es : List (List ℕ × A)) (i : ℕ) (w : A) → position test (keys_of es) ≡ Some i → set_value_at es i w ≡ set_value test es w
  written_at test es i w at = let p = position-Some test (keys_of es) i [] at in written_first test es i w [] p.0 p.1 p.2

  found_first : (test : List ℕ → Bool) (es : List (List ℕ × A)) (i : ℕ) (d : List ℕ) → i < length (keys_of es) → test (get_or (keys_of es) i d) ≡ true
      → ((k : ℕ) → k < i → test (get_or (keys_of es) k d) ≡ false) → slice_get (values_of es) i ≡ lookup test es
  found_first test [] i d below own others = absurd (omega arith)
  found_first test (e ∷ es) zero d below own others = sym (ap (λ (b : Bool). cond b (Some e.1) (lookup test es)) own)
  found_first test (e ∷ es) (suc i) d below own others =
      found_first test es i d (omega (arith, below)) own (λ k l. others (suc k) (omega (arith, l)))
      ∙ sym (ap (λ (b : Bool). cond b (Some e.1) (lookup test es)) (others zero (omega arith)))

  -- the value there is the key's
  pub found_at : (test : List ℕ → Bool) (es : List (List ℕ × A)) (i : ℕ) → position test (keys_of es) ≡ Some i → slice_get (values_of es) i ≡ lookup test es
  found_at test es i at = let p = position-Some test (keys_of es) i [] at in found_first test es i [] p.0 p.1 p.2

  -- the last value, and what is written there
  pub found_last : (es : List (List ℕ × A)) (key : List ℕ) (a : A) → slice_get (values_of (es ++ (key, a) ∷ [])) (length es) ≡ Some a
  found_last [] key a = refl
  found_last (e ∷ es) key a = found_last es key a

  pub written_last : (es : List (List ℕ × A)) (key : List ℕ) (a w : A) → set_value_at (es ++ (key, a) ∷ []) (length es) w ≡ es ++ (key, w) ∷ []
  written_last [] key a w = refl
  written_last (e ∷ es) key a w = ap (λ (rest : List (List ℕ × A)). e ∷ rest) (written_last es key a w)
