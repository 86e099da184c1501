-- In which range the numbers of a value lie, by the range of the values that were recorded.
use Rattle.std.proofs.Common.{◌≡◌, ℕ, zero, suc, ◌+◌, ◌-◌, ◌*◌, ◌^◌, ◌<◌, ℤ, pos, negsuc, neg_ℤ}
use Rattle.std.proofs.Common.{◌+ℤ◌, ◌≤ℤ◌, ◌<ℤ◌, true, false, List, [], ◌∷◌, ◌++◌, length, sum}
use Rattle.std.proofs.Common.{get_or, set, refl, ap, sym, ◌∙◌, arith, zero-mul, suc-mul}
use Rattle.std.specs.Prelude.{fold}
use Rattle.std.specs.List.{AllByRecursion, sum_by, range_with_len}
use Rattle.std.proofs.lemmas.List.{append-nil, append_assoc}
use Rattle.std.proofs.lemmas.List.Sums.{sum_by-cons, sum_by-set, sum-map}
use Rattle.std.proofs.lemmas.Bool.Decides.{nat_tests}
use Rattle.std.proofs.lemmas.Int.{ints, clamps}
use Rattle.metric_aggregate.specs.Aggregation.{Aggregation, SumAggregation, LastValueAggregation}
use Rattle.metric_aggregate.specs.Aggregation.{HistogramAggregation}
use Rattle.metric_aggregate.specs.Range.{fits_i64, in_range}
use Rattle.metric_aggregate.specs.Value.{sum_of, last_of, least_or, greatest_or, bucket_of}
use Rattle.metric_aggregate.specs.Value.{bucket_count, bucket_counts}
use Rattle.metric_aggregate.specs.ValueLaws.{bucket_of-le, length-bucket_counts, bucket_counts-push}

pub record IsBetween (lo hi value : ℤ) : Type 0 where
  pub at_least : lo ≤ℤ value
  pub at_most : value ≤ℤ hi

-- so much below zero and above it at most
pub record IsAroundZero (below above : ℕ) (value : ℤ) : Type 0 where
  pub at_least : neg_ℤ (pos below) ≤ℤ value
  pub at_most : value ≤ℤ pos above

sum_from : (below above : ℕ) (values : List ℤ) (start : ℤ) (l h : ℕ) → neg_ℤ (pos l) ≤ℤ start
    → start ≤ℤ pos h → AllByRecursion (IsAroundZero below above) values
    → IsAroundZero (l + length values * below) (h + length values * above) (fold ◌+ℤ◌ start values)
sum_from below above [] start l h low high all = record {
  at_least = omega (arith, ints, low, zero-mul below);
  at_most = omega (arith, ints, high, zero-mul above);
}
sum_from below above (x ∷ xs) start l h low high all =
    let here : IsAroundZero below above x = all.0 in
    let rest : IsAroundZero ((l + below) + length xs * below) ((h + above) + length xs * above)
    (fold ◌+ℤ◌ (start +ℤ x) xs) =
    sum_from below above xs (start +ℤ x) (l + below) (h + above)
    (omega (arith, ints, low, here.at_least)) (omega (arith, ints, high, here.at_most)) all.1 in
    record {
      at_least = omega (arith, ints, rest.at_least, suc-mul (length xs) below);
      at_most = omega (arith, ints, rest.at_most, suc-mul (length xs) above);
    }

-- a sum is within as many times the range as there are values
pub sum_of-around_zero : (below above : ℕ) (values : List ℤ)
    → AllByRecursion (IsAroundZero below above) values
    → IsAroundZero (length values * below) (length values * above) (sum_of values)
sum_of-around_zero below above values all =
    let sums : IsAroundZero (0 + length values * below) (0 + length values * above)
    (sum_of values) =
    sum_from below above values (pos 0) 0 0 (omega (arith, ints)) (omega (arith, ints)) all in
    record {
      at_least = omega (arith, ints, sums.at_least);
      at_most = omega (arith, ints, sums.at_most);
    }

-- the least, the greatest and the last value lie where all values lie
pub least_or-between : (lo hi none : ℤ) (values : List ℤ) → IsBetween lo hi none
    → AllByRecursion (IsBetween lo hi) values → IsBetween lo hi (least_or none values)
least_or-between lo hi none [] other all = other
least_or-between lo hi none (x ∷ xs) other all =
    let here : IsBetween lo hi x = all.0 in
    let rest : IsBetween lo hi (least_or x xs) = least_or-between lo hi x xs here all.1 in
    record {
      at_least = omega (arith, ints, clamps, here.at_least, rest.at_least);
      at_most = omega (arith, ints, clamps, here.at_most, rest.at_most);
    }

pub greatest_or-between : (lo hi none : ℤ) (values : List ℤ) → IsBetween lo hi none
    → AllByRecursion (IsBetween lo hi) values → IsBetween lo hi (greatest_or none values)
greatest_or-between lo hi none [] other all = other
greatest_or-between lo hi none (x ∷ xs) other all =
    let here : IsBetween lo hi x = all.0 in
    let rest : IsBetween lo hi (greatest_or x xs) = greatest_or-between lo hi x xs here all.1 in
    record {
      at_least = omega (arith, ints, clamps, here.at_least, rest.at_least);
      at_most = omega (arith, ints, clamps, here.at_most, rest.at_most);
    }

between_at : (lo hi : ℤ) (values : List ℤ) → AllByRecursion (IsBetween lo hi) values
    → (k : ℕ) (d : ℤ) → k < length values → IsBetween lo hi (get_or values k d)
between_at lo hi [] all k d below = absurd (omega arith)
between_at lo hi (x ∷ xs) all zero d below = all.0
between_at lo hi (x ∷ xs) all (suc k) d below = between_at lo hi xs all.1 k d (omega arith)

pub last_of-between : (lo hi : ℤ) (values : List ℤ) → 0 < length values
    → AllByRecursion (IsBetween lo hi) values → IsBetween lo hi (last_of values)
last_of-between lo hi values some all =
    between_at lo hi values all (length values - 1) (pos 0) (omega arith)

pub fits_i64-within : (z : ℤ) → negsuc (2 ^ 63 - 1) ≤ℤ z → z <ℤ pos (2 ^ 63) → fits_i64 z ≡ true
fits_i64-within z low high = grind (arith, ints, low, high)

-- a list is in range where its sum is in i64 and its length in u64
pub in_range-within : (kind : Aggregation) (values : List ℤ) → negsuc (2 ^ 63 - 1) ≤ℤ sum_of values
    → sum_of values <ℤ pos (2 ^ 63) → length values < 2 ^ 64 → in_range kind values ≡ true
in_range-within SumAggregation values low high short = fits_i64-within (sum_of values) low high
in_range-within LastValueAggregation values low high short = refl
in_range-within (HistogramAggregation boundaries true) values low high short =
    grind (arith, nat_tests, fits_i64-within (sum_of values) low high)
in_range-within (HistogramAggregation boundaries false) values low high short =
    grind (arith, nat_tests)

none_counted : (bs : List ℤ) (buckets : List ℕ) → sum_by (bucket_count bs []) buckets ≡ 0
none_counted bs [] = refl
none_counted bs (k ∷ ks) =
    sum_by-cons (bucket_count bs []) k ks ∙ ap (λ (n : ℕ). 0 + n) (none_counted bs ks)

one_more_counted : (bs values : List ℤ) (value : ℤ)
    → sum (bucket_counts bs (values ++ value ∷ [])) ≡ sum (bucket_counts bs values) + 1
one_more_counted bs values value =
    let bucket : ℕ = bucket_of bs value in
    let inside : bucket_of bs value < length (bucket_counts bs values) =
    omega (arith, bucket_of-le bs value, length-bucket_counts bs values) in
    let more : sum (set (bucket_counts bs values) (bucket_of bs value)
    (get_or (bucket_counts bs values) (bucket_of bs value) 0 + 1))
    + get_or (bucket_counts bs values) (bucket_of bs value) 0
    ≡ sum (bucket_counts bs values)
    + (get_or (bucket_counts bs values) (bucket_of bs value) 0 + 1) =
    sum_by-set (λ (n : ℕ). n) (bucket_counts bs values) (bucket_of bs value)
    (get_or (bucket_counts bs values) (bucket_of bs value) 0 + 1) 0 inside in
    let same : sum (set (bucket_counts bs values) (bucket_of bs value)
    (get_or (bucket_counts bs values) (bucket_of bs value) 0 + 1))
    ≡ sum (bucket_counts bs (values ++ value ∷ [])) =
    ap sum (bucket_counts-push bs values value) in
    sym same ∙ omega (arith, more)

all_counted : (bs before values : List ℤ)
    → sum (bucket_counts bs (before ++ values)) ≡ sum (bucket_counts bs before) + length values
all_counted bs before [] =
    ap (λ (xs : List ℤ). sum (bucket_counts bs xs)) (append-nil before) ∙ omega arith
all_counted bs before (x ∷ xs) =
    ap (λ (ys : List ℤ). sum (bucket_counts bs ys)) (sym (append_assoc before (x ∷ []) xs))
    ∙ all_counted bs (before ++ x ∷ []) xs
    ∙ omega (arith, one_more_counted bs before x)

-- bucket counts add up to how many values there are
pub sum-bucket_counts : (boundaries values : List ℤ)
    → sum (bucket_counts boundaries values) ≡ length values
sum-bucket_counts bs values =
    all_counted bs [] values
    ∙ ap (λ (n : ℕ). n + length values) (sum-map (bucket_count bs [])
    (range_with_len 0 (length bs + 1)) ∙ none_counted bs (range_with_len 0 (length bs + 1)))
    ∙ omega arith
