-- What the steps of a `BucketAgg` make of the values for which it stands.
use Rattle.std.proofs.Common.{◌≡◌, ℕ, ◌+◌, ◌-◌, ◌^◌, ℤ, pos, negsuc, ◌+ℤ◌, Bool, true, false, List, [], ◌∷◌, ◌++◌, length, Option, Some, None, refl, ap, sym, ◌∙◌, arith, replicate}
use Rattle.std.specs.Prelude.{◌==◌, is_some, option_map, slice_set, slice_index, FitsSigned}
use Rattle.std.specs.Int.{w64, int_min, int_max}
use Rattle.std.proofs.lemmas.Int.{ints, clamps}
use Rattle.std.proofs.lemmas.List.{length_push, length-replicate, get_or-replicate}
use Rattle.metric_aggregate.specs.BucketAgg.{Histogram, StandsBuckets, histogram_aggregation}
use Rattle.metric_aggregate.specs.Value.{sum_of, least_or, greatest_or, bucket_of, bucket_counts, kept_sum, value_of}
use Rattle.metric_aggregate.specs.declared.point_value.PointValue.TheVariants.{Buckets}
use Rattle.std.proofs.lemmas.Bool.{true≢false}
use Rattle.metric_aggregate.specs.ValueLaws.{sum_of-push, bucket_counts-push, bucket_counts_are}
use Rattle.metric_aggregate.proofs.Extremes.{least_or-push, greatest_or-push}

-- the one histogram is the other with one value more
pub record AddsValue (old new : Histogram) (value : ℤ) : Type 0 where
  pub boundaries : new.boundaries ≡ old.boundaries
  pub counts : new.counts ≡ slice_set old.counts (bucket_of old.boundaries value) (slice_index old.counts (bucket_of old.boundaries value) + 1)
  pub count : new.count ≡ old.count + 1
  pub total : new.total ≡ option_map (λ sum. sum +ℤ value) old.total
  pub least : new.least ≡ int_min old.least value
  pub greatest : new.greatest ≡ int_max old.greatest value

-- a running least value that began at the top
least_more : (xs : List ℤ) (v : ℤ) → FitsSigned w64 v → int_min (least_or (pos (2 ^ 63 - 1)) xs) v ≡ least_or (pos (2 ^ 63 - 1)) (xs ++ v ∷ [])
least_more [] v fits = omega (arith, ints, clamps)
least_more (x ∷ xs) v fits = sym (least_or-push (pos (2 ^ 63 - 1)) (x ∷ xs) v)

greatest_more : (xs : List ℤ) (v : ℤ) → FitsSigned w64 v → int_max (greatest_or (negsuc (2 ^ 63 - 1)) xs) v ≡ greatest_or (negsuc (2 ^ 63 - 1)) (xs ++ v ∷ [])
greatest_more [] v fits = omega (arith, ints, clamps)
greatest_more (x ∷ xs) v fits = sym (greatest_or-push (negsuc (2 ^ 63 - 1)) (x ∷ xs) v)

total_more : (total : Option ℤ) (xs : List ℤ) (v : ℤ) → total ≡ kept_sum (is_some total) xs
    → option_map (λ sum. sum +ℤ v) total ≡ kept_sum (is_some (option_map (λ sum. sum +ℤ v) total)) (xs ++ v ∷ [])
total_more None xs v e = refl
total_more (Some z) xs v e =
    let same : z ≡ sum_of xs = cc in
    ap Some (ap (λ (y : ℤ). y +ℤ v) same ∙ sym (sum_of-push xs v))

pub stands_added : (old new : Histogram) (value : ℤ) → FitsSigned w64 value → AddsValue old new value
    → (added : List ℤ) → StandsBuckets old added → StandsBuckets new (added ++ value ∷ [])
stands_added old new value fits a added s = record {
  counts = a.counts
      ∙ ap (λ (counts : List ℕ). slice_set counts (bucket_of old.boundaries value) (slice_index counts (bucket_of old.boundaries value) + 1)) s.counts
      ∙ bucket_counts-push old.boundaries added value
      ∙ ap (λ (boundaries : List ℤ). bucket_counts boundaries (added ++ value ∷ [])) (sym a.boundaries);
  count = a.count ∙ ap (λ (n : ℕ). n + 1) s.count ∙ sym (length_push added value);
  total = a.total
      ∙ total_more old.total added value s.total
      ∙ ap (λ (total : Option ℤ). kept_sum (is_some total) (added ++ value ∷ [])) (sym a.total);
  least = a.least ∙ ap (λ (z : ℤ). int_min z value) s.least ∙ least_more added value fits;
  greatest = a.greatest ∙ ap (λ (z : ℤ). int_max z value) s.greatest ∙ greatest_more added value fits;
}

-- the counts of no values
zeros_are_counts : (boundaries : List ℤ) → replicate (length boundaries + 1) 0 ≡ bucket_counts boundaries []
zeros_are_counts boundaries =
    bucket_counts_are boundaries [] (replicate (length boundaries + 1) 0) (length-replicate (length boundaries + 1) 0) (λ k below. get_or-replicate (length boundaries + 1) k 0 0 below)

kept_sum_of_none : (total : Option ℤ) (keeps_sum : Bool) → total ≡ kept_sum keeps_sum [] → total ≡ kept_sum (is_some total) []
kept_sum_of_none total true e = e ∙ ap (λ (t : Option ℤ). kept_sum (is_some t) []) (sym e)
kept_sum_of_none total false e = e ∙ ap (λ (t : Option ℤ). kept_sum (is_some t) []) (sym e)

pub stands_for_none : (h : Histogram) (keeps_sum : Bool) → h.counts ≡ replicate (length h.boundaries + 1) 0 → h.count ≡ 0 → h.total ≡ kept_sum keeps_sum []
    → h.least ≡ pos (2 ^ 63 - 1) → h.greatest ≡ negsuc (2 ^ 63 - 1) → StandsBuckets h []
stands_for_none h keeps_sum counts count total least greatest = record {
  counts = counts ∙ zeros_are_counts h.boundaries;
  count = count;
  total = kept_sum_of_none h.total keeps_sum total;
  least = least;
  greatest = greatest;
}

-- what is read is the value of what was added
pub read_is_value : (h : Histogram) (counts : List ℕ) (least greatest : ℤ) (added : List ℤ) → counts ≡ h.counts → least ≡ h.least → greatest ≡ h.greatest
    → (h.count == 0) ≡ false → StandsBuckets h added → Buckets h.count counts h.total least greatest ≡ value_of (histogram_aggregation h) added
read_is_value h counts least greatest [] e f g some s = absurd (true≢false (sym (ap (λ (n : ℕ). n == 0) s.count) ∙ some))
read_is_value h counts least greatest (x ∷ xs) e f g some s =
    λ i. Buckets (s.count i) ((e ∙ s.counts) i) (s.total i) ((f ∙ s.least) i) ((g ∙ s.greatest) i)
