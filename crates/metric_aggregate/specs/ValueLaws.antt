-- How the value of a list changes with one value more.
use Rattle.std.proofs.Common.{◌≡◌, ℕ, ◌+◌, ◌<◌, ◌≤◌, ℤ, pos, ◌+ℤ◌, Bool, cond, List, [], ◌∷◌, ◌++◌}
use Rattle.std.proofs.Common.{length, refl, ap, sym, ◌∙◌, arith, get_or, set, ⊎_elim, subst}
use Rattle.std.proofs.Common.{add-zero}
use Rattle.std.specs.Prelude.{◌==◌, slice_set, slice_index}
use Rattle.std.proofs.lemmas.Bool.{cases_eq, eq-eqb, ne_eqb}
use Rattle.std.proofs.lemmas.List.{get_or-set_same, get_or-set_other, length-set}
use Rattle.std.proofs.lemmas.List.FromFn.{fill_by_all, length-map-range_with_len}
use Rattle.std.proofs.lemmas.List.FromFn.{get_or-map-range_with_len}
use Rattle.std.proofs.lemmas.List.Sums.{fold_push, sum_by_push, count_by-le-length}
use Rattle.metric_aggregate.specs.Value.{sum_of, bucket_of, bucket_count, bucket_counts}

pub sum_of-push : (xs : List ℤ) (v : ℤ) → sum_of (xs ++ v ∷ []) ≡ sum_of xs +ℤ v
sum_of-push xs v = fold_push ◌+ℤ◌ (pos 0) xs v

-- each bucket but that of the value stays as it is
pub bucket_count-push : (bs xs : List ℤ) (v : ℤ) (k : ℕ)
    → bucket_count bs (xs ++ v ∷ []) k ≡ bucket_count bs xs k + cond (bucket_of bs v == k) 1 0
bucket_count-push bs xs v k = sum_by_push (λ (value : ℤ). cond (bucket_of bs value == k) 1 0) xs v

pub bucket_of-le : (bs : List ℤ) (v : ℤ) → bucket_of bs v ≤ length bs
bucket_of-le bs v = count_by-le-length _ bs

pub length-bucket_counts : (bs xs : List ℤ) → length (bucket_counts bs xs) ≡ length bs + 1
length-bucket_counts bs xs = length-map-range_with_len (bucket_count bs xs) 0 (length bs + 1)

pub get_or-bucket_counts : (bs xs : List ℤ) (k : ℕ) → k < length bs + 1
    → get_or (bucket_counts bs xs) k 0 ≡ bucket_count bs xs k
get_or-bucket_counts bs xs k below =
    get_or-map-range_with_len (bucket_count bs xs) 0 (length bs + 1) k k 0 below (omega arith)

-- counts that are those of each bucket are the bucket counts
pub bucket_counts_are : (bs xs : List ℤ) (counts : List ℕ) → length counts ≡ length bs + 1
    → ((k : ℕ) → k < length bs + 1 → get_or counts k 0 ≡ bucket_count bs xs k)
    → counts ≡ bucket_counts bs xs
bucket_counts_are bs xs counts long each =
    fill_by_all (bucket_count bs xs) counts (length bs + 1) 0 long each

-- a count in its list, one higher
set_adds : (counts : List ℕ) (b k : ℕ) → b < length counts
    → get_or (set counts b (get_or counts b 0 + 1)) k 0 ≡ get_or counts k 0 + cond (b == k) 1 0
set_adds counts b k inside =
    ⊎_elim (λ same. at_same counts b k same inside) (λ other. at_other counts b k other)
    (cases_eq k b)
  where
    at_same : (counts : List ℕ) (b k : ℕ) → k ≡ b → b < length counts
        → get_or (set counts b (get_or counts b 0 + 1)) k 0 ≡ get_or counts k 0 + cond (b == k) 1 0
    at_same counts b k same inside =
        subst (λ (j : ℕ). get_or (set counts b (get_or counts b 0 + 1)) j 0
        ≡ get_or counts j 0 + cond (b == j) 1 0) (sym same)
        (get_or-set_same counts b (get_or counts b 0 + 1) 0 inside
        ∙ ap (λ (t : Bool). get_or counts b 0 + cond t 1 0) (sym (eq-eqb b b refl)))

    at_other : (counts : List ℕ) (b k : ℕ) → (k ≡ b → ⊥)
        → get_or (set counts b (get_or counts b 0 + 1)) k 0 ≡ get_or counts k 0 + cond (b == k) 1 0
    at_other counts b k other =
        get_or-set_other counts b k (get_or counts b 0 + 1) 0 other
        ∙ sym (add-zero (get_or counts k 0))
        ∙ ap (λ (t : Bool). get_or counts k 0 + cond t 1 0) (sym (ne_eqb b k (λ e. other (sym e))))

-- a value more is one more in its bucket
pub bucket_counts-push : (bs xs : List ℤ) (v : ℤ) → slice_set (bucket_counts bs xs) (bucket_of bs v)
    (slice_index (bucket_counts bs xs) (bucket_of bs v) + 1) ≡ bucket_counts bs (xs ++ v ∷ [])
bucket_counts-push bs xs v =
    let inside : bucket_of bs v < length (bucket_counts bs xs) =
    omega (arith, bucket_of-le bs v, length-bucket_counts bs xs) in
    bucket_counts_are bs (xs ++ v ∷ []) _
    (length-set (bucket_counts bs xs) (bucket_of bs v) _ ∙ length-bucket_counts bs xs)
    (λ k below. set_adds (bucket_counts bs xs) (bucket_of bs v) k inside
    ∙ ap (λ (n : ℕ). n + cond (bucket_of bs v == k) 1 0) (get_or-bucket_counts bs xs k below)
    ∙ sym (bucket_count-push bs xs v k))
