-- Recordings of full sets have no more series than the product over the kept keys, and no more than there are
-- recordings; those of listed combinations have no more than these have restrictions.
use Rattle.std.proofs.Common.{◌≡◌, ◌≢◌, ℕ, zero, suc, ◌+◌, ◌*◌, ◌<◌, ◌≤◌, Bool, true, false, not, ◌||◌, cond, List, [], ◌∷◌, length, map, All, AllPairs, refl, sym, ap, subst, ◌∙◌, arith}
use Rattle.std.specs.Prelude.{eqb}
use Rattle.std.specs.List.{AllByRecursion, IsDistinct, list_any}
use Rattle.std.specs.Str.{bytes_eq}
use Rattle.std.proofs.lemmas.Bool.{eqb-true, ne_eqb, or_right, true≢false}
use Rattle.std.proofs.lemmas.List.{length-map}
use Rattle.std.proofs.lemmas.List.Elements.{All-nil, All-cons, All-head, All-tail, All-map, All-weaker, All-filter, filter_passes}
use Rattle.std.proofs.lemmas.List.Kept.{AllPairs-cons, AllPairs-filter}
use Rattle.std.proofs.lemmas.List.Sums.{length-filter, count_by-le-length}
use Rattle.std.proofs.lemmas.Map.Made.{IsDistinct-from_AllPairs}
use Rattle.std.proofs.lemmas.Map.Steps.{length-le_from_distinct_below}
use Rattle.std.proofs.lemmas.Slice.Eq.{bytes_eq-Decides}
use Rattle.metric_facts.specs.declared.facts.KeyFacts.{KeyFacts}
use Rattle.metric_facts.specs.Facts.{is_full_set}
use Rattle.metric_combinations.specs.Combinations.{allows}
use Rattle.metric_combinations.specs.RestrictionLaws.{within_restrictions}
use Rattle.metric_combinations.specs.Restrictions.{restricted, restrictions}
use Rattle.metric_history.specs.Series.{distinct, others}
use Rattle.metric_history.specs.SeriesLaws.{key_is_same, same_key, has-distinct, distinct-cons}
use Rattle.metric_facts.specs.Products.{product_of}
use Rattle.metric_facts.specs.Ranks.{digit_if, rank, rank_below}
use Rattle.metric_safety.proofs.Ranks.{rank_same}

-- the rank of a series is that of each set of it
rank-restricted : (kept : List Bool) (keys : List KeyFacts) (set : List ℕ) → rank kept keys (restricted kept set) ≡ rank kept keys set
rank-restricted [] keys set = refl
rank-restricted (flag ∷ kept) [] set = refl
rank-restricted (flag ∷ kept) (key ∷ keys) [] = refl
rank-restricted (flag ∷ kept) (key ∷ keys) (entry ∷ set) =
    ap (λ (n : ℕ). n * product_of kept keys + rank kept keys (restricted kept set)) (same flag)
    ∙ ap (λ (n : ℕ). digit_if flag key entry * product_of kept keys + n) (rank-restricted kept keys set)
  where
    same : (flag : Bool) → digit_if flag key (cond flag entry 0) ≡ digit_if flag key entry
    same true = refl
    same false = refl

-- a series of some full set
pub record IsSeries (kept : List Bool) (keys : List KeyFacts) (key : List ℕ) : Type 0 where
  pub set : List ℕ
  pub long : length set ≡ 8
  pub full : is_full_set keys set ≡ true
  pub is : key ≡ restricted kept set

series_below : (kept : List Bool) (keys : List KeyFacts) (key : List ℕ) → IsSeries kept keys key → rank kept keys key < product_of kept keys
series_below kept keys key s =
    let same : rank kept keys key ≡ rank kept keys s.set = ap (rank kept keys) s.is ∙ rank-restricted kept keys s.set in
    omega (arith, rank_below kept keys s.set s.full, same)

series_same : (kept : List Bool) (keys : List KeyFacts) (a b : List ℕ) → length kept ≡ length keys → IsSeries kept keys a → IsSeries kept keys b → rank kept keys a ≡ rank kept keys b → a ≡ b
series_same kept keys a b flags s t e =
    let ranks : rank kept keys s.set ≡ rank kept keys t.set =
    sym (rank-restricted kept keys s.set) ∙ ap (rank kept keys) (sym s.is) ∙ e ∙ ap (rank kept keys) t.is ∙ rank-restricted kept keys t.set in
    s.is ∙ rank_same kept keys s.set t.set flags (s.long ∙ sym t.long) s.full t.full ranks ∙ sym t.is

-- the ranks of distinct series are distinct
ranks_apart : (kept : List Bool) (keys : List KeyFacts) (key : List ℕ) (found : List (List ℕ)) → length kept ≡ length keys → IsSeries kept keys key
    → All (IsSeries kept keys) found → All (λ other. key ≢ other) found → AllByRecursion (λ n. eqb (rank kept keys key) n ≡ false) (map (rank kept keys) found)
ranks_apart kept keys key [] flags s all apart = tt
ranks_apart kept keys key (x ∷ found) flags s all apart = (
  ne_eqb (rank kept keys key) (rank kept keys x) (λ e. All-head (λ other. key ≢ other) x found apart (series_same kept keys key x flags s (All-head (IsSeries kept keys) x found all) e)),
  ranks_apart kept keys key found flags s (All-tail (IsSeries kept keys) x found all) (All-tail (λ other. key ≢ other) x found apart),
)

pairs_head : (x : List ℕ) (xs : List (List ℕ)) → AllPairs (λ a b. a ≢ b) (x ∷ xs) → All (λ other. x ≢ other) xs
pairs_head x xs pairs = λ k d below. pairs zero (suc k) d (omega arith) (omega arith)

pairs_tail : (x : List ℕ) (xs : List (List ℕ)) → AllPairs (λ a b. a ≢ b) (x ∷ xs) → AllPairs (λ a b. a ≢ b) xs
pairs_tail x xs pairs = λ i j d before below. pairs (suc i) (suc j) d (omega arith) (omega arith)

ranks_distinct : (kept : List Bool) (keys : List KeyFacts) (found : List (List ℕ)) → length kept ≡ length keys → All (IsSeries kept keys) found → AllPairs (λ a b. a ≢ b) found
    → IsDistinct eqb (map (rank kept keys) found)
unfolding IsDistinct
ranks_distinct kept keys [] flags all apart = tt
ranks_distinct kept keys (x ∷ found) flags all apart = (
  ranks_apart kept keys x found flags (All-head (IsSeries kept keys) x found all) (All-tail (IsSeries kept keys) x found all) (pairs_head x found apart),
  ranks_distinct kept keys found flags (All-tail (IsSeries kept keys) x found all) (pairs_tail x found apart),
)

ranks_below : (kept : List Bool) (keys : List KeyFacts) (found : List (List ℕ)) → All (IsSeries kept keys) found → (q : ℕ) → list_any (eqb q) (map (rank kept keys) found) ≡ true → q < product_of kept keys
ranks_below kept keys [] all q some = absurd (true≢false (sym some))
ranks_below kept keys (x ∷ found) all q some = at (eqb q (rank kept keys x)) refl some (ranks_below kept keys found (All-tail (IsSeries kept keys) x found all) q)
  where
    at : (b : Bool) → eqb q (rank kept keys x) ≡ b → (b || list_any (eqb q) (map (rank kept keys) found)) ≡ true → (list_any (eqb q) (map (rank kept keys) found) ≡ true → q < product_of kept keys) → q < product_of kept keys
    at true e some rest = omega (arith, eqb-true q (rank kept keys x) e, series_below kept keys x (All-head (IsSeries kept keys) x found all))
    at false e some rest = rest some

few_ranks : (kept : List Bool) (keys : List KeyFacts) (found : List (List ℕ)) → length kept ≡ length keys → All (IsSeries kept keys) found → AllPairs (λ a b. a ≢ b) found
    → length found ≤ product_of kept keys
few_ranks kept keys found flags all apart =
    omega (arith, length-map found (rank kept keys), length-le_from_distinct_below (map (rank kept keys) found) (product_of kept keys) (ranks_distinct kept keys found flags all apart) (ranks_below kept keys found all))

-- no key stands twice among the distinct ones
pub distinct_apart : (keys : List (List ℕ)) → AllPairs (λ a b. a ≢ b) (distinct keys)
distinct_apart [] = λ i j d before below. absurd (omega arith)
distinct_apart (key ∷ keys) =
    subst (AllPairs (λ a b. a ≢ b)) (sym (distinct-cons key keys))
    (AllPairs-cons (λ a b. a ≢ b) key (others key (distinct keys))
    (All-weaker (λ other. not (bytes_eq other key) ≡ true) (λ other. key ≢ other) (λ other passes e. unlike other passes e) (others key (distinct keys)) (filter_passes (λ other. not (bytes_eq other key)) (distinct keys)))
    (AllPairs-filter (λ a b. a ≢ b) (λ other. not (bytes_eq other key)) (distinct keys) (distinct_apart keys)))
  where
    unlike : (other : List ℕ) → not (bytes_eq other key) ≡ true → key ≡ other → ⊥
    unlike other passes e = true≢false (sym passes ∙ ap not (ap (λ (k : List ℕ). bytes_eq k key) (sym e) ∙ key_is_same key))

-- what holds of all keys holds of the distinct ones
pub All-distinct : (P : List ℕ → Type 0) (keys : List (List ℕ)) → All P keys → All P (distinct keys)
All-distinct P [] all = All-nil P
All-distinct P (key ∷ keys) all =
    subst (All P) (sym (distinct-cons key keys))
    (All-cons P key (others key (distinct keys)) (All-head P key keys all) (All-filter (λ other. not (bytes_eq other key)) P (distinct keys) (All-distinct P keys (All-tail P key keys all))))

pub length-distinct : (keys : List (List ℕ)) → length (distinct keys) ≤ length keys
length-distinct [] = omega arith
length-distinct (key ∷ keys) =
    let fewer : length (others key (distinct keys)) ≤ length (distinct keys) =
    omega (arith, length-filter (λ other. not (bytes_eq other key)) (distinct keys), count_by-le-length (λ other. not (bytes_eq other key)) (distinct keys)) in
    omega (arith, ap length (distinct-cons key keys), fewer, length-distinct keys)

-- there are no more distinct series than the product over the kept keys
pub series_bounded : (kept : List Bool) (keys : List KeyFacts) (all : List (List ℕ)) → length kept ≡ length keys → All (IsSeries kept keys) all → length (distinct all) ≤ product_of kept keys
series_bounded kept keys all flags each = few_ranks kept keys (distinct all) flags (All-distinct (IsSeries kept keys) all each) (distinct_apart all)

-- ---- listed combinations

-- the restriction of a combination is one of the restrictions
allows-restricted : (kept : List Bool) (rows : List (List ℕ)) (set : List ℕ) → allows rows set ≡ true → allows (map (restricted kept) rows) (restricted kept set) ≡ true
allows-restricted kept [] set e = absurd (true≢false (sym e))
allows-restricted kept (row ∷ rows) set e = at (bytes_eq row set) refl e (allows-restricted kept rows set)
  where
    at : (b : Bool) → bytes_eq row set ≡ b → (b || allows rows set) ≡ true → (allows rows set ≡ true → allows (map (restricted kept) rows) (restricted kept set) ≡ true)
        → allows (map (restricted kept) (row ∷ rows)) (restricted kept set) ≡ true
    at true same some rest =
        ap (λ (r : List ℕ). allows (restricted kept r ∷ map (restricted kept) rows) (restricted kept set)) (same_key row set same)
        ∙ ap (λ (b : Bool). b || allows (map (restricted kept) rows) (restricted kept set)) (key_is_same (restricted kept set))
    at false same some rest = or_right (bytes_eq (restricted kept row) (restricted kept set)) (allows (map (restricted kept) rows) (restricted kept set)) (rest some)

-- a series of listed combinations is one of their restrictions
allows-each : (rows keys : List (List ℕ)) → All (λ key. allows rows key ≡ true) keys → (set : List ℕ) → allows keys set ≡ true → allows rows set ≡ true
allows-each rows [] all set some = absurd (true≢false (sym some))
allows-each rows (key ∷ keys) all set some = at (bytes_eq key set) refl some (allows-each rows keys (All-tail (λ k. allows rows k ≡ true) key keys all) set)
  where
    at : (b : Bool) → bytes_eq key set ≡ b → (b || allows keys set) ≡ true → (allows keys set ≡ true → allows rows set ≡ true) → allows rows set ≡ true
    at true same some rest = ap (allows rows) (sym (same_key key set same)) ∙ All-head (λ k. allows rows k ≡ true) key keys all
    at false same some rest = rest some

-- there are no more distinct series of listed combinations than these have restrictions
pub listed_bounded : (kept : List Bool) (rows sets : List (List ℕ)) → All (λ set. allows rows set ≡ true) sets → length (distinct (map (restricted kept) sets)) ≤ length (restrictions kept rows)
listed_bounded kept rows sets all =
    let keys = map (restricted kept) sets in
    let each : All (λ key. allows (map (restricted kept) rows) key ≡ true) keys =
    All-map (λ key. allows (map (restricted kept) rows) key ≡ true) (restricted kept) sets
    (All-weaker (λ set. allows rows set ≡ true) (λ set. allows (map (restricted kept) rows) (restricted kept set) ≡ true) (allows-restricted kept rows) sets all) in
    within_restrictions kept rows (distinct keys) (IsDistinct-from_AllPairs bytes_eq-Decides (distinct keys) (distinct_apart keys))
    (λ set some. allows-each (map (restricted kept) rows) keys each set (sym (has-distinct keys set) ∙ some))
