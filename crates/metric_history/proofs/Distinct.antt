-- Set keys that are distinct: each stands once, and in ascending order they rise strictly.
use Rattle.std.proofs.Common.{◌≡◌, Ordering, Less, Equal, Greater, ℕ, ◌+◌, Bool, true, false, ◌||◌, cond, List, [], ◌∷◌, ◌++◌, get_or, refl, sym, ap, ◌∙◌, arith}
use Rattle.std.specs.Prelude.{fold}
use Rattle.std.specs.Cmp.Lexicographic.{nat_list_eq_equiv, slice_cmp}
use Rattle.std.specs.List.{IsDistinct, list_any}
use Rattle.std.specs.List.Sorted.{IsStrictlySortedBy}
use Rattle.std.specs.Ordering.{is_lt, nat_cmp, ordering_reverse}
use Rattle.std.specs.Str.{bytes_eq}
use Rattle.std.proofs.lemmas.Bool.{true≢false}
use Rattle.std.proofs.lemmas.Cmp.{nat_list_cmp_total}
use Rattle.std.proofs.lemmas.Map.Keys.{IsDistinct-IsPermutation, IsDistinct-push, apart_from_distinct, sorted_from_all_adjacent}
use Rattle.std.proofs.lemmas.Map.Lookups.{exact_bytes}
use Rattle.metric_history.specs.AscendingLaws.{ascending-IsSorted}
use Rattle.metric_history.specs.PointLaws.{ascending-IsPermutation}
use Rattle.metric_history.specs.Points.{ascending}
use Rattle.metric_history.specs.Series.{distinct, found_with, has}
use Rattle.metric_history.specs.SeriesLaws.{distinct-cons, key_is_same}

-- ---- no key stands twice among the distinct ones

pub flipped : (key : List ℕ) (keys : List (List ℕ)) → list_any (bytes_eq key) keys ≡ has keys key
flipped key [] = refl
flipped key (k ∷ keys) =
    ap (λ (b : Bool). b || list_any (bytes_eq key) keys) (nat_list_eq_equiv.symm key k) ∙ ap (λ (b : Bool). bytes_eq k key || b) (flipped key keys)

once_found : (keys found : List (List ℕ)) → IsDistinct bytes_eq found → IsDistinct bytes_eq (fold found_with found keys)
once_found [] found once = once
once_found (x ∷ keys) found once = once_found keys (found_with found x) (at (has found x) refl)
  where
    at : (b : Bool) → has found x ≡ b → IsDistinct bytes_eq (cond b found (found ++ x ∷ []))
    at true e = once
    at false e = IsDistinct-push nat_list_eq_equiv found x once (flipped x found ∙ e)

pub distinct_once : (keys : List (List ℕ)) → IsDistinct bytes_eq (distinct keys)
unfolding IsDistinct
distinct_once keys = once_found keys [] tt

-- ---- in ascending order they rise strictly

rises : (a b : List ℕ) → is_lt (slice_cmp nat_cmp b a) ≡ false → bytes_eq a b ≡ false → slice_cmp nat_cmp a b ≡ Less
rises a b up apart = at (slice_cmp nat_cmp a b) refl
  where
    at : (order : Ordering) → slice_cmp nat_cmp a b ≡ order → slice_cmp nat_cmp a b ≡ Less
    at Less e = e
    at Equal e = absurd (true≢false (sym (key_is_same a) ∙ ap (bytes_eq a) (exact_bytes a b e) ∙ apart))
    at Greater e = absurd (true≢false (sym (ap is_lt (nat_list_cmp_total.antisymm b a ∙ ap ordering_reverse e)) ∙ up))

pub ascending_rises : (keys : List (List ℕ)) → IsDistinct bytes_eq keys → IsStrictlySortedBy (slice_cmp nat_cmp) (ascending keys)
ascending_rises keys once =
    let apart : IsDistinct bytes_eq (ascending keys) = IsDistinct-IsPermutation bytes_eq nat_list_eq_equiv.symm keys (ascending keys) (ascending-IsPermutation keys) once in
    sorted_from_all_adjacent nat_list_cmp_total (ascending keys) []
    (λ k below. rises (get_or (ascending keys) k []) (get_or (ascending keys) (k + 1) []) (ascending-IsSorted keys k [] (omega arith) below)
    (apart_from_distinct bytes_eq (ascending keys) k (k + 1) [] apart (omega arith) below))

-- what a proof about distinct set keys goes by
pub ruleset distinct_laws = (distinct-cons)
