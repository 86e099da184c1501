-- What a dense table reports is what the definitions say of the recordings.
use Rattle.std.proofs.Common.{◌≡◌, Ordering, Less, Equal, Greater, ℕ, zero, suc, ◌+◌, ◌≤◌, ◌<◌, ℤ, Bool, true, false, not, ◌||◌, cond, List, [], ◌∷◌, ◌++◌, Some, length, map, get_or, take, refl, sym, ap, subst, ◌∙◌, arith}
use Rattle.std.specs.Prelude.{filter, ◌==◌}
use Rattle.std.specs.BTreeMap.{is_at}
use Rattle.std.specs.Cmp.{nat_cmp_is}
use Rattle.std.specs.Cmp.Lexicographic.{slice_cmp}
use Rattle.std.specs.List.{AllByRecursion, IsDistinct, list_any}
use Rattle.std.specs.List.Sorted.{IsStrictlySortedBy}
use Rattle.std.specs.Ordering.{is_eq, nat_cmp}
use Rattle.std.specs.Str.{bytes_eq}
use Rattle.std.proofs.lemmas.Bool.{ne_eqb, or_right, true≢false}
use Rattle.std.proofs.lemmas.Cmp.{nat_list_cmp_total}
use Rattle.std.proofs.lemmas.List.{append-nil, length-map, length-take, map_push, take_all, take_more}
use Rattle.std.proofs.lemmas.List.Sorted.{list_any-IsPermutation}
use Rattle.std.proofs.lemmas.Map.Lookups.{btree_set_from_contains, exact_bytes}
use Rattle.metric_aggregate.specs.declared.aggregate.Aggregate as aggregate
use Rattle.metric_aggregate.specs.Aggregation.{Aggregation}
use Rattle.metric_aggregate.specs.Value.{value_of}
use Rattle.metric_facts.specs.declared.facts.KeyFacts.{KeyFacts}
use Rattle.metric_history.specs.declared.batch.Point.{Point}
use Rattle.metric_history.specs.declared.entry.Entry.{Entry}
use Rattle.metric_history.specs.PointLaws.{ascending-IsPermutation}
use Rattle.metric_history.specs.Points.{ascending, point, points, values}
use Rattle.metric_history.specs.Series.{all_series, belongs, has, held, rows}
use Rattle.metric_history.specs.SeriesLaws.{has_all_series, key_is_same, same_key}
use Rattle.metric_series.specs.Tables.{HasRows}
use Rattle.metric_views.specs.declared.stream.Stream.{Stream}
use Rattle.metric_facts.specs.Products.{product_of}
use Rattle.metric_facts.specs.Ranks.{rank}
use Rattle.metric_dense.specs.Ranks.{series_of}
use Rattle.metric_dense.specs.DenseTables.{DenseValue, StandsDense}
use Rattle.metric_history.proofs.Distinct.{ascending_rises, distinct_once}
use Rattle.metric_dense.proofs.Holding.{all_held, all_placed, has_held, none_over, IsPlaced}
use Rattle.metric_dense.proofs.Ranking.{list_itself, unrank_ordered}

both_ways : (a b : Bool) → (a ≡ true → b ≡ true) → (b ≡ true → a ≡ true) → a ≡ b
both_ways true b there back = sym (there refl)
both_ways false true there back = back refl
both_ways false false there back = refl

at_key : (key : List ℕ) (keys : List (List ℕ)) → list_any (is_at (slice_cmp nat_cmp key)) keys ≡ has keys key
at_key key [] = refl
at_key key (k ∷ keys) =
    ap (λ (b : Bool). b || list_any (is_at (slice_cmp nat_cmp key)) keys) (one (slice_cmp nat_cmp key k) refl)
    ∙ ap (λ (b : Bool). bytes_eq k key || b) (at_key key keys)
  where
    one : (o : Ordering) → slice_cmp nat_cmp key k ≡ o → is_at (slice_cmp nat_cmp key) k ≡ bytes_eq k key
    one o e = both_ways (is_at (slice_cmp nat_cmp key) k) (bytes_eq k key) (there o e)
        (λ same. ap (is_at (slice_cmp nat_cmp key)) (same_key k key same) ∙ ap is_eq (list_itself key))
      where
        there : (o : Ordering) → slice_cmp nat_cmp key k ≡ o → is_at (slice_cmp nat_cmp key) k ≡ true → bytes_eq k key ≡ true
        there Less e found = absurd (true≢false (sym found ∙ ap is_eq e))
        there Equal e found = ap (bytes_eq k) (exact_bytes key k e) ∙ key_is_same k
        there Greater e found = absurd (true≢false (sym found ∙ ap is_eq e))

-- keys that rise strictly are others in ascending order, where they have the same members
rising_once : (found keys : List (List ℕ)) → IsStrictlySortedBy (slice_cmp nat_cmp) found → IsDistinct bytes_eq keys → ((key : List ℕ) → has found key ≡ has keys key)
    → found ≡ ascending keys
rising_once found keys up once members =
    btree_set_from_contains nat_list_cmp_total (record { keys = found }) (record { keys = ascending keys }) up (ascending_rises keys once)
    (λ key.
    at_key key found ∙ members key ∙ sym (at_key key keys)
    ∙ list_any-IsPermutation (is_at (slice_cmp nat_cmp key)) keys (ascending keys) (ascending-IsPermutation keys))
    exact_bytes

-- ---- the series of the aggregates that are not empty

none_passes : (p : Entry → Bool) (entries : List Entry) → (length (filter p entries) == 0) ≡ not (list_any p entries)
none_passes p [] = refl
none_passes p (e ∷ entries) = at (p e) (none_passes p entries)
  where
    at : (b : Bool) → (length (filter p entries) == 0) ≡ not (list_any p entries) → (length (cond b (e ∷ filter p entries) (filter p entries)) == 0) ≡ not (b || list_any p entries)
    at true rest = ne_eqb (length (e ∷ filter p entries)) 0 (λ h. omega (arith, h))
    at false rest = rest

module _ {A P : Type 0} (by : aggregate.Ghosts A P) (kept : List Bool) (keys : List KeyFacts) where
  -- those of a list of aggregates, of which the first has this rank
  pub used_from : ℕ → List A → List (List ℕ)
  used_from r [] = []
  used_from r (a ∷ list) = cond (by.is_empty a) (used_from (suc r) list) (series_of kept keys r ∷ used_from (suc r) list)

  abbrev pub used : List A → List (List ℕ)
  used list = used_from 0 list

  pushed_from : (r : ℕ) (list : List A) (a : A) → used_from r (list ++ a ∷ []) ≡ used_from r list ++ cond (by.is_empty a) [] (series_of kept keys (r + length list) ∷ [])
  unfolding used_from
  pushed_from r [] a = at (by.is_empty a) (omega arith)
    where
      at : (b : Bool) → r ≡ r + 0 → cond b [] (series_of kept keys r ∷ []) ≡ cond b [] (series_of kept keys (r + 0) ∷ [])
      at true e = refl
      at false e = ap (λ (q : ℕ). series_of kept keys q ∷ []) e
  pushed_from r (x ∷ list) a = at (by.is_empty x) (pushed_from (suc r) list a) (omega arith)
    where
      at : (b : Bool) → used_from (suc r) (list ++ a ∷ []) ≡ used_from (suc r) list ++ cond (by.is_empty a) [] (series_of kept keys (suc r + length list) ∷ [])
          → suc r + length list ≡ r + suc (length list)
          → cond b (used_from (suc r) (list ++ a ∷ [])) (series_of kept keys r ∷ used_from (suc r) (list ++ a ∷ []))
          ≡ cond b (used_from (suc r) list) (series_of kept keys r ∷ used_from (suc r) list) ++ cond (by.is_empty a) [] (series_of kept keys (r + suc (length list)) ∷ [])
      at true rest e = rest ∙ ap (λ (q : ℕ). used_from (suc r) list ++ cond (by.is_empty a) [] (series_of kept keys q ∷ [])) e
      at false rest e = ap (λ (ks : List (List ℕ)). series_of kept keys r ∷ ks) (rest ∙ ap (λ (q : ℕ). used_from (suc r) list ++ cond (by.is_empty a) [] (series_of kept keys q ∷ [])) e)

  -- with one aggregate more
  used_push : (list : List A) (a : A) (empty : Bool) → by.is_empty a ≡ empty → used (list ++ a ∷ []) ≡ used list ++ cond empty [] (series_of kept keys (length list) ∷ [])
  used_push list a empty e =
      let from : 0 + length list ≡ length list = omega arith in
      pushed_from 0 list a
      ∙ ap (λ (b : Bool). used_from 0 list ++ cond b [] (series_of kept keys (0 + length list) ∷ [])) e
      ∙ ap (λ (q : ℕ). used_from 0 list ++ cond empty [] (series_of kept keys q ∷ [])) from

  pub used_none : used [] ≡ []
  unfolding used_from
  used_none = refl

  pub used_more : (list : List A) (i : ℕ) (a : A) (empty : Bool) → i < length list → a ≡ get_or list i a → by.is_empty a ≡ empty
      → used (take (i + 1) list) ≡ used (take i list) ++ cond empty [] (series_of kept keys i ∷ [])
  used_more list i a empty below is e =
      let long : length (take i list) ≡ i = omega (arith, length-take i list) in
      ap used (take_more list i a below ∙ ap (λ (x : A). take i list ++ x ∷ []) (sym is))
      ∙ used_push (take i list) a empty e
      ∙ ap (λ (q : ℕ). used (take i list) ++ cond empty [] (series_of kept keys q ∷ [])) long

  -- they rise strictly
  above : (q r : ℕ) (list : List A) → q < r → r + length list ≤ product_of kept keys → AllByRecursion (λ y. slice_cmp nat_cmp (series_of kept keys q) y ≡ Less) (used_from r list)
  unfolding used_from
  above q r [] low inside = tt
  above q r (a ∷ list) low inside = at (by.is_empty a) (above q (suc r) list (omega arith) (omega arith))
    where
      at : (b : Bool) → AllByRecursion (λ y. slice_cmp nat_cmp (series_of kept keys q) y ≡ Less) (used_from (suc r) list)
          → AllByRecursion (λ y. slice_cmp nat_cmp (series_of kept keys q) y ≡ Less) (cond b (used_from (suc r) list) (series_of kept keys r ∷ used_from (suc r) list))
      at true rest = rest
      at false rest = (unrank_ordered _ kept keys q r (omega arith) (omega arith) ∙ sym (nat_cmp_is q r Less low), rest)

  rising : (r : ℕ) (list : List A) → r + length list ≤ product_of kept keys → IsStrictlySortedBy (slice_cmp nat_cmp) (used_from r list)
  unfolding used_from IsStrictlySortedBy
  rising r [] inside = tt
  rising r (a ∷ list) inside = at (by.is_empty a) (rising (suc r) list (omega arith))
    where
      at : (b : Bool) → IsStrictlySortedBy (slice_cmp nat_cmp) (used_from (suc r) list)
          → IsStrictlySortedBy (slice_cmp nat_cmp) (cond b (used_from (suc r) list) (series_of kept keys r ∷ used_from (suc r) list))
      at true rest = rest
      at false rest = (above r (suc r) list (omega arith) (omega arith), rest)

  -- one of them is there
  used_there : (r : ℕ) (list : List A) (i : ℕ) → i < length list → ((d : A) → by.is_empty (get_or list i d) ≡ false) → has (used_from r list) (series_of kept keys (r + i)) ≡ true
  unfolding used_from
  used_there r [] i below some = absurd (omega arith)
  used_there r (a ∷ list) zero below some =
      let here : r + 0 ≡ r = omega arith in
      ap (λ (b : Bool). has (cond b (used_from (suc r) list) (series_of kept keys r ∷ used_from (suc r) list)) (series_of kept keys (r + 0))) (some a)
      ∙ ap (λ (q : ℕ). bytes_eq (series_of kept keys r) (series_of kept keys q) || has (used_from (suc r) list) (series_of kept keys q)) here
      ∙ ap (λ (b : Bool). b || has (used_from (suc r) list) (series_of kept keys r)) (key_is_same (series_of kept keys r))
  used_there r (a ∷ list) (suc i) below some =
      let next : r + suc i ≡ suc r + i = omega arith in
      at (by.is_empty a) (ap (λ (q : ℕ). has (used_from (suc r) list) (series_of kept keys q)) next ∙ used_there (suc r) list i (omega arith) some)
    where
      at : (b : Bool) → has (used_from (suc r) list) (series_of kept keys (r + suc i)) ≡ true
          → has (cond b (used_from (suc r) list) (series_of kept keys r ∷ used_from (suc r) list)) (series_of kept keys (r + suc i)) ≡ true
      at true rest = rest
      at false rest = or_right (bytes_eq (series_of kept keys r) (series_of kept keys (r + suc i))) (has (used_from (suc r) list) (series_of kept keys (r + suc i))) rest

  -- where it comes from
  record IsUsed (r : ℕ) (list : List A) (key : List ℕ) : Type 0 where
    index : ℕ
    below : index < length list
    some : (d : A) → by.is_empty (get_or list index d) ≡ false
    is : series_of kept keys (r + index) ≡ key

  later_used : (r : ℕ) (a : A) (list : List A) (key : List ℕ) → IsUsed (suc r) list key → IsUsed r (a ∷ list) key
  later_used r a list key u =
      let next : r + suc u.index ≡ suc r + u.index = omega arith in
      record { index = suc u.index; below = omega (arith, u.below); some = u.some; is = ap (series_of kept keys) next ∙ u.is }

  used_is : (r : ℕ) (list : List A) (key : List ℕ) → has (used_from r list) key ≡ true → IsUsed r list key
  unfolding used_from
  used_is r [] key there = absurd (true≢false (sym there))
  used_is r (a ∷ list) key there = at (by.is_empty a) refl there (λ h. later_used r a list key (used_is (suc r) list key h))
    where
      here : (b : Bool) → by.is_empty a ≡ false → bytes_eq (series_of kept keys r) key ≡ b → (b || has (used_from (suc r) list) key) ≡ true
          → (has (used_from (suc r) list) key ≡ true → IsUsed r (a ∷ list) key) → IsUsed r (a ∷ list) key
      here true some e there later =
          let from : r + 0 ≡ r = omega arith in
          record { index = 0; below = omega arith; some = λ d. some; is = ap (series_of kept keys) from ∙ same_key (series_of kept keys r) key e }
      here false some e there later = later there

      at : (b : Bool) → by.is_empty a ≡ b → has (cond b (used_from (suc r) list) (series_of kept keys r ∷ used_from (suc r) list)) key ≡ true
          → (has (used_from (suc r) list) key ≡ true → IsUsed r (a ∷ list) key) → IsUsed r (a ∷ list) key
      at true e there later = later there
      at false e there later = here (bytes_eq (series_of kept keys r) key) e refl there later

-- ---- what is reported

module _ {A P : Type 0} (by : aggregate.Ghosts A P) (law : (a : A) (added : List ℤ) → by.stands a added → by.is_empty a ≡ (length added == 0)) (t : DenseValue A) (s : Stream) (window : List Entry) (known : StandsDense by t s window) where
  -- an aggregate is empty where no recording is of its series
  empty_is : (a : A) (key : List ℕ) → HasRows by a s window (Some key) → by.is_empty a ≡ not (has (all_series s.kept window) key)
  empty_is a key had =
      law a (values (rows s window (Some key))) had.stands
      ∙ ap (λ (n : ℕ). n == 0) (length-map (rows s window (Some key)) (λ (e : Entry). e.value))
      ∙ none_passes (belongs s window (Some key)) window
      ∙ ap not (sym (has_all_series s.kept window key))

  not_not : (a b : Bool) → a ≡ not b → a ≡ false → b ≡ true
  not_not a true e f = refl
  not_not a false e f = absurd (true≢false (sym e ∙ f))

  members : (key : List ℕ) → has (used by s.kept t.keys t.aggregates) key ≡ has (held s window) key
  members key = both_ways (has (used by s.kept t.keys t.aggregates) key) (has (held s window) key) there back
    where
      are_held : has (held s window) key ≡ has (all_series s.kept window) key
      are_held = has_held s t.keys window known.ranked known.room known.taken key

      there : has (used by s.kept t.keys t.aggregates) key ≡ true → has (held s window) key ≡ true
      there found =
          let u = used_is by s.kept t.keys 0 t.aggregates key found in
          let from : 0 + u.index ≡ u.index = omega arith in
          let is : series_of s.kept t.keys u.index ≡ key = sym (ap (series_of s.kept t.keys) from) ∙ u.is in
          are_held ∙ ap (has (all_series s.kept window)) (sym is) ∙ held_at u.index u.below u.some
        where
          held_at : (i : ℕ) → i < length t.aggregates → ((d : A) → by.is_empty (get_or t.aggregates i d) ≡ false) → has (all_series s.kept window) (series_of s.kept t.keys i) ≡ true
          held_at i below some = pick t.aggregates i below some (λ d. known.each i d below)
            where
              pick : (list : List A) (i : ℕ) → i < length list → ((d : A) → by.is_empty (get_or list i d) ≡ false) → ((d : A) → HasRows by (get_or list i d) s window (Some (series_of s.kept t.keys i))) → has (all_series s.kept window) (series_of s.kept t.keys i) ≡ true
              pick [] i below some had = absurd (omega arith)
              pick (a ∷ list) i below some had =
                  not_not (by.is_empty (get_or (a ∷ list) i a)) (has (all_series s.kept window) (series_of s.kept t.keys i)) (empty_is (get_or (a ∷ list) i a) (series_of s.kept t.keys i) (had a)) (some a)

      back : has (held s window) key ≡ true → has (used by s.kept t.keys t.aggregates) key ≡ true
      back found =
          let some : has (all_series s.kept window) key ≡ true = sym are_held ∙ found in
          let own : IsPlaced s.kept t.keys key = all_placed s.kept t.keys known.ranked window known.taken key some in
          let r = rank s.kept t.keys key in
          let from : 0 + r ≡ r = omega arith in
          let below : r < length t.aggregates = omega (arith, own.below, known.places) in
          ap (has (used by s.kept t.keys t.aggregates)) (sym (ap (series_of s.kept t.keys) from ∙ own.back))
          ∙ used_there by s.kept t.keys 0 t.aggregates r below
          (λ d. empty_is (get_or t.aggregates r d) (series_of s.kept t.keys r) (known.each r d below) ∙ ap not (ap (has (all_series s.kept window)) own.back ∙ some))

  -- the series that are used are those that are held, in ascending order
  pub used_ascend : used by s.kept t.keys t.aggregates ≡ ascending (held s window)
  used_ascend =
      rising_once (used by s.kept t.keys t.aggregates) (held s window) (rising by s.kept t.keys 0 t.aggregates (omega (arith, known.places)))
      (subst (IsDistinct bytes_eq) (sym (all_held s t.keys window known.ranked known.room known.taken)) (distinct_once (all_series s.kept window))) members

  -- their points are all points
  dense_points : (found : List Point) → found ≡ map (λ key. point s window (Some key)) (used by s.kept t.keys t.aggregates) → found ≡ points s window
  dense_points found each =
      each
      ∙ ap (map (λ key. point s window (Some key))) used_ascend
      ∙ sym (append-nil (map (λ key. point s window (Some key)) (ascending (held s window))))
      ∙ ap (λ (ps : List Point). map (λ key. point s window (Some key)) (ascending (held s window)) ++ ps) (sym (none_over s t.keys window known.ranked known.room known.taken))

  abbrev pub point_at : List ℕ → Point
  point_at key = point s window (Some key)

  -- the points of the aggregates so far
  abbrev pub points_to : ℕ → List Point
  points_to i = map point_at (used by s.kept t.keys (take i t.aggregates))

  pub points_none : [] ≡ points_to 0
  points_none = ap (map point_at) (sym (used_none by s.kept t.keys))

  module _ (list : List A) (items : list ≡ t.aggregates) (i : ℕ) (a : A) (inside : i < length list) (item : a ≡ get_or list i a) where
    below : i < length t.aggregates
    below = omega (arith, inside, ap length items)

    is : a ≡ get_or t.aggregates i a
    is = item ∙ ap (λ (all : List A). get_or all i a) items

    -- one more aggregate that is empty
    pub points_same : (found new : List Point) → by.is_empty a ≡ true → found ≡ points_to i → new ≡ found → new ≡ points_to (i + 1)
    points_same found new e so_far same =
        same
        ∙ so_far
        ∙ ap (map point_at) (sym (used_more by s.kept t.keys t.aggregates i a true below is e ∙ append-nil (used by s.kept t.keys (take i t.aggregates))))

    -- one that is not
    pub points_more : (p : Point) (found pushed new : List Point) → by.is_empty a ≡ false
        → ((added : List ℤ) → by.stands a added → p ≡ record { set = Some (series_of t.kept t.keys i); value = value_of (by.aggregation a) added })
        → found ≡ points_to i → pushed ≡ found ++ p ∷ [] → new ≡ pushed → new ≡ points_to (i + 1)
    points_more p found pushed new e read so_far push same =
        let had : HasRows by a s window (Some (series_of s.kept t.keys i)) = subst (λ (x : A). HasRows by x s window (Some (series_of s.kept t.keys i))) (sym is) (known.each i a below) in
        let added : List ℤ = values (rows s window (Some (series_of s.kept t.keys i))) in
        let its : p ≡ point_at (series_of s.kept t.keys i) =
        read added had.stands
        ∙ ap (λ (kept : List Bool). record { set = Some (series_of kept t.keys i); value = value_of (by.aggregation a) added }) known.kept
        ∙ ap (λ (kind : Aggregation). record { set = Some (series_of s.kept t.keys i); value = value_of kind added }) had.aggregation in
        same
        ∙ push
        ∙ ap (λ (ps : List Point). ps ++ p ∷ []) so_far
        ∙ ap (λ (q : Point). points_to i ++ q ∷ []) its
        ∙ sym (map_push point_at (used by s.kept t.keys (take i t.aggregates)) (series_of s.kept t.keys i))
        ∙ ap (map point_at) (sym (used_more by s.kept t.keys t.aggregates i a false below is e))

  -- no aggregate is left
  pub points_all : (list : List A) → list ≡ t.aggregates → (i : ℕ) (found : List Point) → length list ≤ i → found ≡ points_to i → found ≡ points s window
  points_all list items i found ended so_far =
      dense_points found
      (so_far ∙ ap (λ (all : List A). map point_at (used by s.kept t.keys all)) (take_all i t.aggregates (omega (arith, ended, ap length items))))
