-- A stream that has room for each series that there can be holds each series of its recordings, and none overflows.
use Rattle.std.proofs.Common.{◌≡◌, ℕ, zero, suc, ◌+◌, ◌-◌, ◌≤◌, ◌<◌, Bool, true, false, not, ◌||◌, cond, All, List, [], ◌∷◌, None, length, get_or, refl, sym, ap, subst, ◌∙◌, arith}
use Rattle.std.specs.Cmp.Lexicographic.{nat_list_eq_equiv}
use Rattle.std.specs.List.{list_any}
use Rattle.std.specs.Str.{bytes_eq}
use Rattle.std.proofs.lemmas.Bool.{or_right, true≢false}
use Rattle.std.proofs.lemmas.List.{take_all}
use Rattle.std.proofs.lemmas.List.Elements.{All-head, All-tail}
use Rattle.std.proofs.lemmas.List.Folds.{list_any_none}
use Rattle.std.proofs.lemmas.Map.Made.{length-le_from_is_member}
use Rattle.metric_facts.specs.declared.facts.KeyFacts.{KeyFacts}
use Rattle.metric_history.specs.declared.entry.Entry.{Entry}
use Rattle.metric_history.specs.Points.{overflow, point}
use Rattle.metric_combinations.specs.Restrictions.{restricted}
use Rattle.metric_history.specs.Series.{all_series, belongs, distinct, has, held, series}
use Rattle.metric_history.proofs.Distinct.{distinct_once, flipped}
use Rattle.metric_history.specs.SeriesLaws.{has-distinct, has_own_series, key_is_same, same_key}
use Rattle.metric_views.specs.declared.stream.Stream.{Stream}
use Rattle.metric_facts.specs.Products.{product_of}
use Rattle.metric_facts.specs.Ranks.{rank, rank_below}
use Rattle.metric_dense.specs.Ranks.{series_of, IsRanked, IsTaken}
use Rattle.metric_dense.proofs.Ranking.{rank_unrank, unrank_rank}

-- ---- the series of ranks

module _ (kept : List Bool) (keys : List KeyFacts) where
  -- a set key that is the series of its rank
  pub record IsPlaced (key : List ℕ) : Type 0 where
    pub below : rank kept keys key < product_of kept keys
    pub back : series_of kept keys (rank kept keys key) ≡ key

  -- the series of so many ranks, of which this one is the first
  series_from : ℕ → ℕ → List (List ℕ)
  series_from r zero = []
  series_from r (suc n) = series_of kept keys r ∷ series_from (suc r) n

  length-series_from : (r n : ℕ) → length (series_from r n) ≡ n
  unfolding series_from
  length-series_from r zero = refl
  length-series_from r (suc n) = ap suc (length-series_from (suc r) n)

  series_there : (r n i : ℕ) → i < n → list_any (bytes_eq (series_of kept keys (r + i))) (series_from r n) ≡ true
  unfolding series_from
  series_there r zero i below = absurd (omega arith)
  series_there r (suc n) zero below =
      let here : r + 0 ≡ r = omega arith in
      ap (λ (b : Bool). b || list_any (bytes_eq (series_of kept keys (r + 0))) (series_from (suc r) n))
      (ap (λ (q : ℕ). bytes_eq (series_of kept keys q) (series_of kept keys r)) here ∙ key_is_same (series_of kept keys r))
  series_there r (suc n) (suc i) below =
      let next : suc r + i ≡ r + suc i = omega arith in
      or_right (bytes_eq (series_of kept keys (r + suc i)) (series_of kept keys r)) (list_any (bytes_eq (series_of kept keys (r + suc i))) (series_from (suc r) n))
      (ap (λ (q : ℕ). list_any (bytes_eq (series_of kept keys q)) (series_from (suc r) n)) (sym next) ∙ series_there (suc r) n i (omega arith))

  module _ (ranked : IsRanked kept keys) where
    -- the series of the rank of a set is that of the set
    pub own_series : (set : List ℕ) → IsTaken keys set → series_of kept keys (rank kept keys set) ≡ restricted kept set
    own_series set taken = unrank_rank (8 - length keys) kept keys set ranked.flags (omega (arith, taken.long, ranked.few)) taken.full

    -- the rank of the series of a rank
    pub own_rank : (r : ℕ) → r < product_of kept keys → rank kept keys (series_of kept keys r) ≡ r
    own_rank r below = rank_unrank (8 - length keys) kept keys r below

    placed : (set : List ℕ) → IsTaken keys set → IsPlaced (restricted kept set)
    placed set taken =
        let low : rank kept keys set < product_of kept keys = rank_below kept keys set taken.full in
        let same : rank kept keys (restricted kept set) ≡ rank kept keys set =
        ap (rank kept keys) (sym (own_series set taken)) ∙ own_rank (rank kept keys set) low in
        record { below = omega (arith, same, low); back = ap (series_of kept keys) same ∙ own_series set taken }

    module _ (entries : List Entry) (taken : All (λ (e : Entry). IsTaken keys e.set) entries) where
      -- each series of the recordings is that of its rank
      pub all_placed : (key : List ℕ) → has (all_series kept entries) key ≡ true → IsPlaced key
      all_placed key there = among entries taken there
        where
          among : (es : List Entry) → All (λ (e : Entry). IsTaken keys e.set) es → has (all_series kept es) key ≡ true → IsPlaced key
          among [] all there = absurd (true≢false (sym there))
          among (e ∷ es) all there = at (bytes_eq (series kept e) key) refl there (among es (All-tail (λ (e : Entry). IsTaken keys e.set) e es all))
            where
              at : (b : Bool) → bytes_eq (series kept e) key ≡ b → (b || has (all_series kept es) key) ≡ true → (has (all_series kept es) key ≡ true → IsPlaced key) → IsPlaced key
              at true e' there rest = subst IsPlaced (same_key (series kept e) key e') (placed e.set (All-head (λ (e : Entry). IsTaken keys e.set) e es all))
              at false e' there rest = rest there

      -- so there are no more of them than ranks
      few_series : length (distinct (all_series kept entries)) ≤ product_of kept keys
      few_series =
          let found : List (List ℕ) = distinct (all_series kept entries) in
          let ranks : List (List ℕ) = series_from 0 (product_of kept keys) in
          omega (arith, length-series_from 0 (product_of kept keys), length-le_from_is_member nat_list_eq_equiv found ranks (distinct_once (all_series kept entries)) member)
        where
          member : (key : List ℕ) → list_any (bytes_eq key) (distinct (all_series kept entries)) ≡ true → list_any (bytes_eq key) (series_from 0 (product_of kept keys)) ≡ true
          member key found =
              let own : IsPlaced key = all_placed key (sym (has-distinct (all_series kept entries) key) ∙ sym (flipped key (distinct (all_series kept entries))) ∙ found) in
              let from : 0 + rank kept keys key ≡ rank kept keys key = omega arith in
              ap (λ (k : List ℕ). list_any (bytes_eq k) (series_from 0 (product_of kept keys))) (sym (ap (series_of kept keys) from ∙ own.back))
              ∙ series_there 0 (product_of kept keys) (rank kept keys key) own.below

-- ---- a stream with room

module _ (s : Stream) (keys : List KeyFacts) (window : List Entry) (ranked : IsRanked s.kept keys) (room : product_of s.kept keys ≤ s.limit) (taken : All (λ (e : Entry). IsTaken keys e.set) window) where
  -- it holds each series
  pub all_held : held s window ≡ distinct (all_series s.kept window)
  all_held = take_all s.limit (distinct (all_series s.kept window)) (omega (arith, few_series s.kept keys ranked window taken, room))

  pub has_held : (key : List ℕ) → has (held s window) key ≡ has (all_series s.kept window) key
  has_held key = ap (λ (ks : List (List ℕ)). has ks key) all_held ∙ has-distinct (all_series s.kept window) key

  -- and none overflows
  pub none_over : overflow s window ≡ []
  none_over =
      ap (λ (b : Bool). cond b (point s window None ∷ []) [])
      (list_any_none (belongs s window None) window
      (λ k d inside. ap not (has_held (series s.kept (get_or window k d)) ∙ has_own_series s.kept window k d inside)))
