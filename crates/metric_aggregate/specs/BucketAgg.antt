-- What a `BucketAgg` keeps, and for which lists of values it stands.
use Rattle.std.proofs.Common.{◌≡◌, ℕ, ◌+◌, ◌-◌, ◌^◌, ℤ, pos, negsuc, ◌+ℤ◌, Bool, true, ◌&&◌, ◌||◌}
use Rattle.std.proofs.Common.{not, List, [], ◌∷◌, ◌++◌, length, sum, Option, Some, None, refl, ap}
use Rattle.std.proofs.Common.{sym, ◌∙◌}
use Rattle.std.specs.Prelude.{◌==◌, nat_lt, is_some}
use Rattle.metric_aggregate.specs.Aggregation.{Aggregation, HistogramAggregation}
use Rattle.metric_aggregate.specs.Range.{fits_i64, in_range}
use Rattle.metric_aggregate.specs.Value.{sum_of, least_or, greatest_or, bucket_counts, kept_sum}
use Rattle.std.proofs.lemmas.List.{length_push}
use Rattle.std.proofs.lemmas.List.Sums.{fold_push}

-- the running numbers of a histogram
pub record Histogram : Type 0 where
  pub boundaries : List ℤ
  pub counts : List ℕ
  pub count : ℕ
  pub total : Option ℤ
  pub least : ℤ
  pub greatest : ℤ

-- what each of them keeps
pub record IsHistogram (h : Histogram) : Type 0 where
  pub one_more : length h.counts ≡ length h.boundaries + 1
  pub add_up : sum h.counts ≡ h.count

abbrev pub histogram_aggregation : Histogram → Aggregation
histogram_aggregation h = HistogramAggregation h.boundaries (is_some h.total)

-- whether a kept sum stays in i64 with one more value
abbrev pub fits_total : Option ℤ → ℤ → Bool
fits_total (Some total) value = fits_i64 (total +ℤ value)
fits_total None value = true

abbrev pub histogram_fits : Histogram → ℤ → Bool
histogram_fits h value = nat_lt (h.count + 1) (2 ^ 64) && fits_total h.total value

pub record StandsBuckets (h : Histogram) (added : List ℤ) : Type 0 where
  pub counts : h.counts ≡ bucket_counts h.boundaries added
  pub count : h.count ≡ length added
  pub total : h.total ≡ kept_sum (is_some h.total) added
  pub least : h.least ≡ least_or (pos (2 ^ 63 - 1)) added
  pub greatest : h.greatest ≡ greatest_or (negsuc (2 ^ 63 - 1)) added

fits_total_of : (total : Option ℤ) (added : List ℤ) (value : ℤ)
    → total ≡ kept_sum (is_some total) added
    → fits_total total value ≡ (not (is_some total) || fits_i64 (sum_of (added ++ value ∷ [])))
fits_total_of None added value e = refl
fits_total_of (Some z) added value e =
    let same : z ≡ sum_of added = cc in
    ap (λ (x : ℤ). fits_i64 (x +ℤ value)) same
    ∙ ap fits_i64 (sym (fold_push ◌+ℤ◌ (pos 0) added value))

pub buckets_fit_in_range : (h : Histogram) (added : List ℤ) (value : ℤ) → StandsBuckets h added
    → histogram_fits h value ≡ in_range (histogram_aggregation h) (added ++ value ∷ [])
buckets_fit_in_range h added value s =
    let longer : h.count + 1 ≡ length (added ++ value ∷ []) = ap (λ (n : ℕ). n + 1) s.count
    ∙ sym (length_push added value) in
    ap (λ (n : ℕ). nat_lt n (2 ^ 64) && fits_total h.total value) longer
    ∙ ap (λ (b : Bool). nat_lt (length (added ++ value ∷ [])) (2 ^ 64) && b)
    (fits_total_of h.total added value s.total)

pub buckets_are_empty_of_none : (h : Histogram) (added : List ℤ) → StandsBuckets h added
    → (h.count == 0) ≡ (length added == 0)
buckets_are_empty_of_none h added s = ap (λ (n : ℕ). n == 0) s.count
