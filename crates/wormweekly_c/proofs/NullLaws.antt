-- What handles hold, one looked at after the other.
use Rattle.std.proofs.Common.{◌≡◌, ◌<◌, ◌≤◌, ℕ, Bool, true, false, refl, zero, suc, ◌+◌, List, [], ◌∷◌, Option, length, map, take, sym, ap, subst, ◌∙◌, arith, get_or}
use Rattle.std.specs.Prelude.{◌||◌, slice_index_or, slice_set}
use Rattle.std.specs.List.{list_any}
use Rattle.std.specs.Option.{is_some}
use Rattle.std.proofs.lemmas.List.{length-map, take_all}
use Rattle.std.proofs.lemmas.List.Folds.{list_any_more}

-- a handle in whose place stands one that holds the same
pub value_kept : {H T : Type 0} (f : H → T) (handles : List H) (i : ℕ) (old new : H) → i < length handles → old ≡ slice_index_or handles i old
    → f new ≡ f old → map f (slice_set handles i new) ≡ map f handles
value_kept f [] i old new below is same = absurd (omega arith)
value_kept f (h ∷ handles) zero old new below is same =
    ap (λ (v : _). v ∷ map f handles) (same ∙ ap f is)
value_kept f (h ∷ handles) (suc i) old new below is same =
    ap (λ (vs : List _). f h ∷ vs) (value_kept f handles i old new (omega arith) is same)

-- what the handle of a place holds
value_at : {H T : Type 0} (f : H → T) (handles : List H) (i : ℕ) (own : H) → i < length handles → own ≡ slice_index_or handles i own
    → (d : T) → get_or (map f handles) i d ≡ f own
value_at f [] i own below is d = absurd (omega arith)
value_at f (h ∷ handles) zero own below is d = ap f (sym is)
value_at f (h ∷ handles) (suc i) own below is d = value_at f handles i own (omega arith) is d

-- one handle more
pub any_more : {H X : Type 0} (f : H → Option X) (now before : List H) (i : ℕ) (own : H) → i < length now → own ≡ slice_index_or now i own → map f now ≡ map f before
    → list_any is_some (take (i + 1) (map f before)) ≡ (list_any is_some (take i (map f before)) || is_some (f own))
any_more f now before i own below is kept =
    subst (λ (vs : List (Option _)). list_any is_some (take (i + 1) vs) ≡ (list_any is_some (take i vs) || is_some (f own))) kept
    (list_any_more is_some (map f now) i (f own) (subst (λ (n : ℕ). i < n) (sym (length-map now f)) below)
    ∙ ap (λ (v : Option _). list_any is_some (take i (map f now)) || is_some v) (value_at f now i own below is (f own)))

-- all handles
pub any_all : {H X : Type 0} (f : H → Option X) (handles : List H) (i : ℕ) → length handles ≤ i
    → list_any is_some (take i (map f handles)) ≡ list_any is_some (map f handles)
any_all f handles i end =
    ap (list_any is_some) (take_all i (map f handles) (subst (λ (n : ℕ). n ≤ i) (sym (length-map handles f)) end))

-- one of two tests holds, as the first or the second says
pub where_first : (a b : Bool) → a ≡ true → (a || b) ≡ true
where_first true b is = refl
where_first false b is = absurd cc

pub where_second : (a b : Bool) → a ≡ false → (a || b) ≡ b
where_second true b is = absurd cc
where_second false b is = refl
