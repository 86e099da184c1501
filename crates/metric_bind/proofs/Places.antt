-- The places of names, of which each is new.
use Rattle.std.proofs.Common.{◌≡◌, ◌+◌, ◌<◌, ◌≤◌, ℕ, Bool, true, false, cond, List, [], Option, Some, None}
use Rattle.std.proofs.Common.{length, get_or, take, refl, sym, ap, ◌∙◌, arith, below_more}
use Rattle.std.specs.Map.{update}
use Rattle.std.specs.Str.{bytes_eq}
use Rattle.std.proofs.lemmas.List.{get_or-take, get_or_default, length-take-le}
use Rattle.std.proofs.lemmas.Slice.Eq.{bytes_eq-Decides}
use Rattle.metric_bind.specs.Apart.{AreApart}

-- each name that is kept stands at its place, and each of the first names is kept
pub record AreKept (names : List (List ℕ)) (count : ℕ) (kept : List ℕ → Option ℕ) : Type 0 where
  pub stands : (name : List ℕ) (place : ℕ) → kept name ≡ Some place
      → (place < count) × (get_or names place [] ≡ name)
  pub keeps : (place : ℕ) → place < count → kept (get_or names place []) ≡ Some place

-- one name more, which is new
pub kept_more : (names : List (List ℕ)) (count : ℕ) (kept next : List ℕ → Option ℕ) (name : List ℕ)
    → AreKept names count kept → get_or names count [] ≡ name → kept name ≡ None
    → ((other : List ℕ) → next other ≡ update bytes_eq kept name (Some count) other)
    → AreKept names (count + 1) next
kept_more names count kept next name before is new set = record {
  stands = λ other place e. stood other place (bytes_eq name other) refl e;
  keeps = below_more _ _ (λ place low. earlier place low (bytes_eq name (get_or names place [])) refl)
      own;
}
  where
    stood : (other : List ℕ) (place : ℕ) (b : Bool) → bytes_eq name other ≡ b → next other ≡ Some place
        → (place < count + 1) × (get_or names place [] ≡ other)
    stood other place true same e =
        let at : next other ≡ Some count = rw same at (set other) in
        let is_place : count ≡ place = cc in
        (omega arith, ap (λ (k : ℕ). get_or names k []) (sym is_place) ∙ is ∙ (bytes_eq-Decides name other).0 same)
    stood other place false apart e =
        let at : next other ≡ kept other = rw apart at (set other) in
        let held = before.stands other place (sym at ∙ e) in
        (omega (arith, held.0), held.1)

    earlier : (place : ℕ) → place < count → (b : Bool) → bytes_eq name (get_or names place []) ≡ b
        → next (get_or names place []) ≡ Some place
    earlier place low true same =
        let is_name : name ≡ get_or names place [] = (bytes_eq-Decides name (get_or names place [])).0 same in
        let held : kept (get_or names place []) ≡ Some place = before.keeps place low in
        absurd cc
    earlier place low false apart = (rw apart at (set (get_or names place []))) ∙ before.keeps place low

    own : next (get_or names count []) ≡ Some count
    own =
        let same : bytes_eq name (get_or names count []) ≡ true =
        (bytes_eq-Decides name (get_or names count [])).1 (sym is) in
        rw same at (set (get_or names count []))

-- names of which each is kept at its own place are apart
pub apart_where_kept : (names : List (List ℕ)) (count : ℕ) (kept : List ℕ → Option ℕ)
    → AreKept names count kept → count ≤ length names → AreApart (take count names)
apart_where_kept names count kept all within i j d low high same =
    let long : length (take count names) ≡ count = length-take-le count names within in
    let at : (k : ℕ) → k < count → get_or (take count names) k d ≡ get_or names k [] =
    λ k below. get_or-take count names k d below ∙ get_or_default names k d [] (omega arith) in
    let first : get_or (take count names) i d ≡ get_or names i [] = at i (omega arith) in
    let second : get_or (take count names) j d ≡ get_or names j [] = at j (omega arith) in
    let first_kept : kept (get_or names i []) ≡ Some i = all.keeps i (omega arith) in
    let second_kept : kept (get_or names j []) ≡ Some j = all.keeps j (omega arith) in
    let one : i ≡ j = cc in
    omega arith
