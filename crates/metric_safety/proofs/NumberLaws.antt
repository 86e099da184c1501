-- Between which numbers values of an instrument's range, and what is reported of them, stay.
use Rattle.std.proofs.Common.{◌≡◌, ℕ, suc, ◌-◌, ◌*◌, ◌^◌, ◌<◌, ◌≤◌, ℤ, pos, negsuc, neg_ℤ, ◌*ℤ◌, ◌≤ℤ◌, ◌<ℤ◌, Bool, true, false, List, [], ◌∷◌, length, sum, refl, sym, ap, subst, ◌∙◌, arith}
use Rattle.std.specs.Prelude.{IfSome, IsTrue, FitsSigned}
use Rattle.std.specs.Int.{w64, int_min, int_max}
use Rattle.std.specs.List.{AllByRecursion}
use Rattle.std.proofs.lemmas.Bool.Decides.{nat_tests}
use Rattle.std.proofs.lemmas.Int.{ints, clamps}
use Rattle.std.proofs.lemmas.Nat.{mul-le}
use Rattle.metric_aggregate.specs.Aggregation.{Aggregation, SumAggregation, LastValueAggregation, HistogramAggregation}
use Rattle.metric_aggregate.specs.Bounds.{IsBetween, IsAroundZero, sum_of-around_zero, least_or-between, greatest_or-between, last_of-between, in_range-within, sum-bucket_counts}
use Rattle.metric_aggregate.specs.Range.{in_range}
use Rattle.metric_aggregate.specs.Value.{sum_of, kept_sum, value_of}
use Rattle.metric_bounds.specs.Amounts.{low_with, high_with}
use Rattle.metric_bounds.specs.Sums.{keeps_sum_by}
use Rattle.metric_contents.specs.Kinds.{is_monotonic}
use Rattle.metric_contents.specs.declared.contents.Kind.{Kind}
use Rattle.metric_views.specs.declared.stream.Stream.{Stream}
use Rattle.metric_views.specs.declared.stream.StreamAggregation.{StreamAggregation}
use Rattle.metric_views.specs.declared.stream.StreamAggregation.TheVariants as aggregations
use Rattle.metric_facts.specs.declared.facts.Facts.{Facts}
use Rattle.metric_history.specs.Aggregations.{aggregation_of, stream_aggregation}
use Rattle.metric_safety.specs.SafeFacts.{IsSafeStream, total}
use Rattle.metric_safety.specs.WindowBounds.{IsSumWithin, IsValueWithin}

-- how far a number is below zero, and above it
abbrev below : ℤ → ℕ
below (pos n) = 0
below (negsuc n) = suc n

abbrev above : ℤ → ℕ
above (pos n) = n
above (negsuc n) = 0

times_zero : (n : ℕ) → n * 0 ≡ 0
times_zero n = omega arith

low_is : (n : ℕ) (lo : ℤ) → low_with n lo ≡ neg_ℤ (pos (n * below lo))
low_is n (pos k) =
    let least : int_min (pos k) (pos 0) ≡ pos 0 = omega (arith, ints, clamps) in
    ap (λ z. pos n *ℤ z) least ∙ ap pos (times_zero n) ∙ ap (λ m. neg_ℤ (pos m)) (sym (times_zero n))
low_is n (negsuc k) =
    let least : int_min (negsuc k) (pos 0) ≡ negsuc k = omega (arith, ints, clamps) in
    ap (λ z. pos n *ℤ z) least

high_is : (n : ℕ) (hi : ℤ) → high_with n hi ≡ pos (n * above hi)
high_is n (pos k) =
    let greatest : int_max (pos k) (pos 0) ≡ pos k = omega (arith, ints, clamps) in
    ap (λ z. pos n *ℤ z) greatest
high_is n (negsuc k) =
    let greatest : int_max (negsuc k) (pos 0) ≡ pos 0 = omega (arith, ints, clamps) in
    ap (λ z. pos n *ℤ z) greatest

above_low : (lo v : ℤ) → lo ≤ℤ v → neg_ℤ (pos (below lo)) ≤ℤ v
above_low (pos k) v h = omega (arith, ints, h)
above_low (negsuc k) v h = omega (arith, ints, h)

below_high : (hi v : ℤ) → v ≤ℤ hi → v ≤ℤ pos (above hi)
below_high (pos k) v h = omega (arith, ints, h)
below_high (negsuc k) v h = omega (arith, ints, h)

around_zero : (lo hi : ℤ) (values : List ℤ) → AllByRecursion (IsBetween lo hi) values → AllByRecursion (IsAroundZero (below lo) (above hi)) values
around_zero lo hi [] all = tt
around_zero lo hi (v ∷ values) all =
    (record { at_least = above_low lo v all.0.at_least; at_most = below_high hi v all.0.at_most }, around_zero lo hi values all.1)

same_number : (n : ℕ) → n ≤ n
same_number n = omega arith

-- the sum of at most so many values
pub sum_within : (facts : Facts) (most : ℕ) (values : List ℤ) → AllByRecursion (IsBetween facts.lo facts.hi) values → length values ≤ most → IsSumWithin facts most (sum_of values)
sum_within facts most values all few =
    let sums : IsAroundZero (length values * below facts.lo) (length values * above facts.hi) (sum_of values) =
    sum_of-around_zero (below facts.lo) (above facts.hi) values (around_zero facts.lo facts.hi values all) in
    let lows : length values * below facts.lo ≤ most * below facts.lo = mul-le (length values) (below facts.lo) most (below facts.lo) few (same_number (below facts.lo)) in
    let highs : length values * above facts.hi ≤ most * above facts.hi = mul-le (length values) (above facts.hi) most (above facts.hi) few (same_number (above facts.hi)) in
    record {
      at_least = subst (λ (z : ℤ). z ≤ℤ sum_of values) (sym (low_is most facts.lo)) (omega (arith, ints, sums.at_least, lows));
      at_most = subst (λ (z : ℤ). sum_of values ≤ℤ z) (sym (high_is most facts.hi)) (omega (arith, ints, sums.at_most, highs));
    }

-- what is reported of at least one value and at most so many
pub value_within : (facts : Facts) (aggregation : Aggregation) (most : ℕ) (values : List ℤ) → AllByRecursion (IsBetween facts.lo facts.hi) values → 1 ≤ length values → length values ≤ most
    → IsValueWithin facts most (value_of aggregation values)
value_within facts aggregation most [] all some few = absurd (omega (arith, some))
value_within facts SumAggregation most (v ∷ values) all some few = sum_within facts most (v ∷ values) all few
value_within facts LastValueAggregation most (v ∷ values) all some few = last_of-between facts.lo facts.hi (v ∷ values) (omega (arith, some)) all
value_within facts (HistogramAggregation boundaries keeps) most (v ∷ values) all some few = record {
  within = few;
  buckets = sum-bucket_counts boundaries (v ∷ values);
  kept_within = kept keeps;
  least_between = least_or-between facts.lo facts.hi v (v ∷ values) all.0 all;
  greatest_between = greatest_or-between facts.lo facts.hi v (v ∷ values) all.0 all;
}
  where
    kept : (keeps : Bool) → IfSome (kept_sum keeps (v ∷ values)) (IsSumWithin facts most)
    kept true = sum_within facts most (v ∷ values) all few
    kept false = tt

-- a sum that stays within sums that are 64-bit numbers is one
pub sum_fits : (facts : Facts) (most : ℕ) (sum : ℤ) → IsSumWithin facts most sum → FitsSigned w64 (low_with most facts.lo) → FitsSigned w64 (high_with most facts.hi) → FitsSigned w64 sum
sum_fits facts most sum within low high = between (low_with most facts.lo) (high_with most facts.hi) sum within.at_least within.at_most low high
  where
    between : (l h z : ℤ) → l ≤ℤ z → z ≤ℤ h → FitsSigned w64 l → FitsSigned w64 h → FitsSigned w64 z
    between l h z p q low high = grind (arith, ints, p, q, low, high)

sums_in_range : (aggregation : Aggregation) (values : List ℤ) → FitsSigned w64 (sum_of values) → length values < 2 ^ 64 → in_range aggregation values ≡ true
sums_in_range aggregation values fits few = in_range-within aggregation values (least (sum_of values) fits) (greatest (sum_of values) fits) few
  where
    least : (z : ℤ) → FitsSigned w64 z → negsuc (2 ^ 63 - 1) ≤ℤ z
    least z fits = omega (arith, ints, fits)

    greatest : (z : ℤ) → FitsSigned w64 z → z <ℤ pos (2 ^ 63)
    greatest z fits = omega (arith, ints, fits)

-- values that a stream's sums may have are in range
pub values_in_range : (facts : Facts) (s : Stream) (values : List ℤ) → IsSafeStream facts s → total facts < 2 ^ 64 → AllByRecursion (IsBetween facts.lo facts.hi) values
    → length values ≤ total facts → in_range (stream_aggregation s) values ≡ true
values_in_range facts s values safe counts all few = at s.aggregation s.kind (λ k. fits (safe.low k) (safe.high k))
  where
    fits : FitsSigned w64 (low_with (total facts) facts.lo) → FitsSigned w64 (high_with (total facts) facts.hi) → FitsSigned w64 (sum_of values)
    fits low high = sum_fits facts (total facts) (sum_of values) (sum_within facts (total facts) values all few) low high

    short : length values < 2 ^ 64
    short = omega (arith, few, counts)

    histogram : (boundaries : List ℤ) (keeps : Bool) → (IsTrue keeps → FitsSigned w64 (sum_of values)) → in_range (HistogramAggregation boundaries keeps) values ≡ true
    histogram boundaries true sums = sums_in_range (HistogramAggregation boundaries true) values (sums refl) short
    histogram boundaries false sums = grind (arith, nat_tests, short)

    at : (aggregation : StreamAggregation) (kind : Kind) → (IsTrue (keeps_sum_by aggregation kind) → FitsSigned w64 (sum_of values))
        → in_range (aggregation_of aggregation (is_monotonic kind)) values ≡ true
    at aggregations.Sum kind sums = sums_in_range SumAggregation values (sums refl) short
    at aggregations.LastValue kind sums = refl
    at (aggregations.Histogram boundaries) kind sums = histogram boundaries (is_monotonic kind) sums
