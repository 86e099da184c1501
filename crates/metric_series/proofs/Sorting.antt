-- Distinct keys have one ascending order.
use Rattle.std.proofs.Common.{◌≡◌, Ordering, Less, Equal, Greater, ℕ, ◌+◌, false, List, [], get_or, refl, sym, ap, ◌∙◌, arith}
use Rattle.std.specs.BTreeMap.{is_at}
use Rattle.std.specs.Cmp.Lexicographic.{slice_cmp}
use Rattle.std.specs.List.{IsDistinct}
use Rattle.std.specs.List.Sorted.{IsPermutation, IsSorted, IsStrictlySortedBy}
use Rattle.std.specs.Ordering.{nat_cmp, is_lt, ordering_reverse}
use Rattle.std.specs.Str.{bytes_eq}
use Rattle.std.proofs.lemmas.Bool.{true≢false}
use Rattle.std.proofs.lemmas.Cmp.{nat_list_cmp_total}
use Rattle.std.proofs.lemmas.List.Sorted.{list_any-IsPermutation}
use Rattle.std.proofs.lemmas.Map.Keys.{IsDistinct-IsPermutation, apart_from_distinct, sorted_from_all_adjacent}
use Rattle.std.proofs.lemmas.Map.Lookups.{btree_set_from_contains, exact_bytes}
use Rattle.std.specs.Cmp.Lexicographic.{nat_list_eq_equiv}
use Rattle.metric_history.specs.AscendingLaws.{ascending-IsSorted}
use Rattle.metric_history.specs.PointLaws.{ascending-IsPermutation}
use Rattle.metric_history.specs.Points.{ascending}
use Rattle.metric_history.specs.SeriesLaws.{key_is_same}

before : (a b : List ℕ) → is_lt (slice_cmp nat_cmp b a) ≡ false → bytes_eq a b ≡ false → slice_cmp nat_cmp a b ≡ Less
before a b up apart = at (slice_cmp nat_cmp a b) refl
  where
    at : (order : Ordering) → slice_cmp nat_cmp a b ≡ order → slice_cmp nat_cmp a b ≡ Less
    at Less e = e
    at Equal e = absurd (true≢false (sym (key_is_same a) ∙ ap (bytes_eq a) (exact_bytes a b e) ∙ apart))
    at Greater e = absurd (true≢false (sym (ap is_lt (nat_list_cmp_total.antisymm b a ∙ ap ordering_reverse e)) ∙ up))

strictly : (keys : List (List ℕ)) → IsDistinct bytes_eq keys → IsSorted (slice_cmp nat_cmp) keys → IsStrictlySortedBy (slice_cmp nat_cmp) keys
strictly keys apart up =
    sorted_from_all_adjacent nat_list_cmp_total keys []
    (λ k below. before (get_or keys k []) (get_or keys (k + 1) []) (up k [] (omega arith) below) (apart_from_distinct bytes_eq keys k (k + 1) [] apart (omega arith) below))

pub sorted_once : (keys sorted : List (List ℕ)) → IsPermutation keys sorted → IsSorted (slice_cmp nat_cmp) sorted → IsDistinct bytes_eq keys → sorted ≡ ascending keys
sorted_once keys sorted moved up apart =
    let own : IsDistinct bytes_eq sorted = IsDistinct-IsPermutation bytes_eq nat_list_eq_equiv.symm keys sorted moved apart in
    let its : IsDistinct bytes_eq (ascending keys) = IsDistinct-IsPermutation bytes_eq nat_list_eq_equiv.symm keys (ascending keys) (ascending-IsPermutation keys) apart in
    btree_set_from_contains nat_list_cmp_total (record { keys = sorted }) (record { keys = ascending keys }) (strictly sorted own up) (strictly (ascending keys) its (ascending-IsSorted keys))
    (λ key.
    sym (list_any-IsPermutation (is_at (slice_cmp nat_cmp key)) keys sorted moved)
    ∙ list_any-IsPermutation (is_at (slice_cmp nat_cmp key)) keys (ascending keys) (ascending-IsPermutation keys))
    exact_bytes
