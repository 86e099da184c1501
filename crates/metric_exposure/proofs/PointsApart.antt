-- Two points of a window are never shown with the same labels.
use Rattle.std.proofs.Common.{◌≡◌, ℕ, zero, suc, ◌<◌, ◌≤◌, Bool, true, false, cond, ◌||◌, List, [], ◌∷◌, ◌++◌, length, map, take, Option, Some, None, refl, sym, ap, subst, ◌∙◌, arith, codes}
use Rattle.std.specs.Prelude.{count_by, slice_get}
use Rattle.std.specs.List.{flat_map, list_any}
use Rattle.std.specs.Option.{option_map_or}
use Rattle.std.specs.Str.{bytes_eq}
use Rattle.std.proofs.lemmas.List.{append_cancel_right}
use Rattle.std.proofs.lemmas.List.Elements.{filter-append}
use Rattle.std.proofs.lemmas.List.Folds.{list_any-append}
use Rattle.std.proofs.lemmas.List.Sums.{sum_by-cons}
use Rattle.std.proofs.lemmas.Option.{get_or_from_slice_get, slice_get_within}
use Rattle.std.proofs.lemmas.Slice.Eq.{bytes_eq-Decides}
use Rattle.metric_contents.specs.declared.contents.Contents.{Contents}
use Rattle.metric_contents.specs.declared.contents.Meter.{Meter}
use Rattle.metric_views.specs.declared.stream.Stream.{Stream}
use Rattle.metric_history.specs.declared.batch.Point.{Point}
use Rattle.metric_history.specs.declared.entry.Entry.{Entry}
use Rattle.metric_history.specs.PointLaws.{ascending_has}
use Rattle.metric_history.specs.Points.{CountsOnce, ascending, overflow, point, points}
use Rattle.metric_history.specs.Series.{all_series, belongs, distinct, has, held, series}
use Rattle.metric_history.specs.SeriesLaws.{has-distinct}
use Rattle.metric_lines.specs.Keys.{attributes_of}
use Rattle.metric_family.specs.declared.metric_type.MetricType.{MetricType}
use Rattle.metric_family.specs.declared.metric_type.MetricType.TheVariants.{Counter, Gauge, Histogram}
use Rattle.metric_family.specs.Families.{type_of}
use Rattle.metric_family.specs.Labels.{Label, attribute_label, point_labels, scope_labels, shown}
use Rattle.metric_family.specs.Words.{is_among, is_some}
use Rattle.metric_exposure.specs.Exposures.{reserved_of}
use Rattle.metric_exposure.specs.Sources.{keys_of, meter_of}
use Rattle.metric_exposure.specs.KeyFaults.{reserved_labels, scope_taken, type_labels}
use Rattle.metric_exposure.specs.Renames.{merged_labels, server_labels}
use Rattle.metric_exposure.specs.Laws.{AreFull, Passes, PointsAreApart, SeriesAreApart, shown_of}
use Rattle.metric_exposure.proofs.Passing.{key_passes}
use Rattle.metric_exposure.proofs.Series.{fresh, shown_keys, tells_of}

-- an entry that passes
pub record Found (test : Entry → Bool) (entries : List Entry) : Type 0 where
  pub place : ℕ
  pub entry : Entry
  pub at : slice_get entries place ≡ Some entry
  pub is : test entry ≡ true

found : (test : Entry → Bool) (entries : List Entry) → list_any test entries ≡ true → Found test entries
found test [] e = absurd cc
found test (x ∷ xs) e = by (test x) refl e (found test xs)
  where
    by : (b : Bool) → test x ≡ b → (b || list_any test xs) ≡ true → (list_any test xs ≡ true → Found test xs) → Found test (x ∷ xs)
    by true is e later = record { place = 0; entry = x; at = refl; is = is }
    by false is e later = let f = later e in record { place = suc f.place; entry = f.entry; at = f.at; is = f.is }

-- a series that is held is that of some recording
has_taken : (n : ℕ) (keys : List (List ℕ)) (key : List ℕ) → has (take n keys) key ≡ true → has keys key ≡ true
has_taken zero keys key e = absurd cc
has_taken (suc n) [] key e = e
has_taken (suc n) (k ∷ keys) key e = by (bytes_eq k key) e (has_taken n keys key)
  where
    by : (b : Bool) → (b || has (take n keys) key) ≡ true → (has (take n keys) key ≡ true → has keys key ≡ true) → (b || has keys key) ≡ true
    by true e later = refl
    by false e later = later e

of_series : (kept : List Bool) (window : List Entry) (key : List ℕ)
    → has (all_series kept window) key ≡ list_any (λ (entry : Entry). bytes_eq (series kept entry) key) window
of_series kept [] key = refl
of_series kept (entry ∷ window) key = ap (λ b. bytes_eq (series kept entry) key || b) (of_series kept window key)

module _ (s : Stream) (window : List Entry) where
  -- some recording belongs to it
  abbrev IsTold : Option (List ℕ) → Type 0
  IsTold set = list_any (belongs s window set) window ≡ true

  held_told : (k : ℕ) (key : List ℕ) → slice_get (ascending (held s window)) k ≡ Some key → IsTold (Some key)
  held_told k key at =
      let sorted = ascending (held s window) in
      let has_it : has (held s window) key ≡ true =
      ap (has (held s window)) (sym (get_or_from_slice_get sorted k key key at)) ∙ ascending_has (held s window) sorted k key refl (slice_get_within sorted k key at) in
      let has_all : has (all_series s.kept window) key ≡ true =
      sym (has-distinct (all_series s.kept window) key) ∙ has_taken s.limit (distinct (all_series s.kept window)) key has_it in
      sym (of_series s.kept window key) ∙ has_all

  overflow_told : (k : ℕ) (p : Point) → slice_get (overflow s window) k ≡ Some p → IsTold p.set
  overflow_told k p at = by (list_any (belongs s window None) window) refl k at
    where
      by : (b : Bool) → list_any (belongs s window None) window ≡ b → (k : ℕ) → slice_get (cond b (point s window None ∷ []) []) k ≡ Some p → IsTold p.set
      by true e zero at = let same : point s window None ≡ p = cc in subst (λ (q : Point). IsTold q.set) same e
      by true e (suc k) at = absurd cc
      by false e k at = absurd cc

  told_of : (keys : List (List ℕ)) → ((k : ℕ) (key : List ℕ) → slice_get keys k ≡ Some key → IsTold (Some key)) → (i : ℕ) (p : Point)
      → slice_get (map (λ key. point s window (Some key)) keys ++ overflow s window) i ≡ Some p → IsTold p.set
  told_of [] all i p at = overflow_told i p at
  told_of (key ∷ keys) all zero p at = let same : point s window (Some key) ≡ p = cc in subst (λ (q : Point). IsTold q.set) same (all 0 key refl)
  told_of (key ∷ keys) all (suc i) p at = told_of keys (λ k other also. all (suc k) other also) i p at

  point_told : (i : ℕ) (p : Point) → slice_get (points s window) i ≡ Some p → IsTold p.set
  point_told i p at = told_of (ascending (held s window)) held_told i p at

-- two that pass are counted twice
once : (test : Point → Bool) (ps : List Point) (j : ℕ) (q : Point) → slice_get ps j ≡ Some q → test q ≡ true → 1 ≤ count_by test ps
once test [] j q at passes = absurd cc
once test (x ∷ ps) zero q at passes =
    let same : x ≡ q = cc in
    let here : cond (test x) 1 0 ≡ 1 = ap {B = ℕ} (λ (b : Bool). cond b 1 0) (ap test same ∙ passes) in
    omega (arith, sum_by-cons (λ (y : Point). cond (test y) 1 0) x ps, here)
once test (x ∷ ps) (suc j) q at passes = omega (arith, sum_by-cons (λ (y : Point). cond (test y) 1 0) x ps, once test ps j q at passes)

twice : (test : Point → Bool) (ps : List Point) (i j : ℕ) (p q : Point) → i < j → slice_get ps i ≡ Some p → slice_get ps j ≡ Some q → test p ≡ true → test q ≡ true
    → 2 ≤ count_by test ps
twice test [] i j p q less at also passes too = absurd cc
twice test (x ∷ ps) i zero p q less at also passes too = absurd (omega arith)
twice test (x ∷ ps) zero (suc j) p q less at also passes too =
    let same : x ≡ p = cc in
    let here : cond (test x) 1 0 ≡ 1 = ap {B = ℕ} (λ (b : Bool). cond b 1 0) (ap test same ∙ passes) in
    omega (arith, sum_by-cons (λ (y : Point). cond (test y) 1 0) x ps, here, once test ps j q also too)
twice test (x ∷ ps) (suc i) (suc j) p q less at also passes too =
    omega (arith, sum_by-cons (λ (y : Point). cond (test y) 1 0) x ps, twice test ps i j p q (omega arith) at also passes too)

-- the mark of the overflow series is taken
mark_first : (type : MetricType) → is_among (type_labels type) (codes "otel_metric_overflow") ≡ true
mark_first Counter = refl
mark_first Gauge = refl
mark_first Histogram = refl

pub mark_taken : (contents : Contents) (stream : Stream) → is_among (reserved_of contents stream) (codes "otel_metric_overflow") ≡ true
unfolding reserved_of reserved_labels
mark_taken contents stream =
    let mark : List ℕ = codes "otel_metric_overflow" in
    let type = type_labels (type_of stream) in
    let scope = option_map_or scope_taken (meter_of contents stream) [] in
    let merged = flat_map (merged_labels (keys_of contents stream) stream.kept) server_labels in
    list_any-append (bytes_eq mark) (type ++ scope) merged
    ∙ ap (λ b. b || is_among merged mark) (list_any-append (bytes_eq mark) type scope ∙ ap (λ b. b || is_among scope mark) (mark_first (type_of stream)))

module _ (contents : Contents) (streams : List Stream) (reader number : ℕ) (stream : Stream) (p : Passes contents streams reader number stream) (meter : Meter) where
  abbrev labels_of : Option (List ℕ) → List Label
  labels_of set = shown (point_labels meter (keys_of contents stream) stream.kept set)

  -- no series is shown as the overflow series
  no_mark : (set : List ℕ) → labels_of (Some set) ≡ labels_of None → ⊥
  unfolding point_labels
  no_mark set e =
      let keys = keys_of contents stream in
      let told : Label = (codes "otel_metric_overflow", codes "true") in
      let one = filter-append (λ (label : Label). is_some label.1) (map attribute_label (attributes_of keys stream.kept set)) (scope_labels meter) in
      let two = filter-append (λ (label : Label). is_some label.1) (told ∷ []) (scope_labels meter) in
      let keyed = append_cancel_right (shown_keys keys stream.kept set) (told ∷ []) (shown (scope_labels meter)) (sym one ∙ e ∙ two) in
      fresh (reserved_of contents stream) (codes "otel_metric_overflow") keys stream.kept set told []
      (tells_of (reserved_of contents stream) keys stream.kept (key_passes contents streams reader number stream p)) (mark_taken contents stream) keyed refl

  same_set : SeriesAreApart → length stream.kept ≡ length (keys_of contents stream) → (window : List Entry) → AreFull contents stream window → (a b : Option (List ℕ))
      → Found (belongs stream window a) window → Found (belongs stream window b) window → labels_of a ≡ labels_of b → a ≡ b
  same_set apart long window full None None f g e = refl
  same_set apart long window full (Some a) None f g e = absurd (no_mark a e)
  same_set apart long window full None (Some b) f g e = absurd (no_mark b (sym e))
  same_set apart long window full (Some a) (Some b) f g e =
      let one : series stream.kept f.entry ≡ a = (bytes_eq-Decides (series stream.kept f.entry) a).0 f.is in
      let two : series stream.kept g.entry ≡ b = (bytes_eq-Decides (series stream.kept g.entry) b).0 g.is in
      let here = full.each f.place f.entry f.at in
      let there = full.each g.place g.entry g.at in
      let alike : shown_of contents stream meter f.entry.set ≡ shown_of contents stream meter g.entry.set =
      ap (λ (set : List ℕ). labels_of (Some set)) one ∙ e ∙ sym (ap (λ (set : List ℕ). labels_of (Some set)) two) in
      ap Some (sym one ∙ apart contents streams reader number stream meter f.entry.set g.entry.set p long here.0 there.0 (here.1 ∙ sym there.1) alike ∙ two)

-- Points of which these sets are related are one point, where related sets are one.
pub none_related : (stream : Stream) (window : List Entry) (Related : Option (List ℕ) → Option (List ℕ) → Type 0) → CountsOnce stream window
    → ((a b : Option (List ℕ)) → Found (belongs stream window a) window → Found (belongs stream window b) window → Related a b → a ≡ b)
    → (first later : ℕ) (here there : Point) → first < later → slice_get (points stream window) first ≡ Some here → slice_get (points stream window) later ≡ Some there
    → Related here.set there.set → ⊥
none_related stream window Related once_each one_set first later here there less at also related =
    let told = found (belongs stream window here.set) window (point_told stream window first here at) in
    let told_too = found (belongs stream window there.set) window (point_told stream window later there also) in
    let one = one_set here.set there.set told told_too related in
    let counted = once_each told.place told.entry told.at in
    let both = twice (λ (q : Point). belongs stream window q.set told.entry) (points stream window) first later here there less at also told.is
    (ap (λ (set : Option (List ℕ)). belongs stream window set told.entry) (sym one) ∙ told.is) in
    absurd (omega (arith, counted, both))

pub points_are_apart : ((s : Stream) (window : List Entry) → CountsOnce s window) → SeriesAreApart → PointsAreApart
points_are_apart once_each apart contents streams reader number stream meter window first later here there p long full less at also e =
    let labels = labels_of contents streams reader number stream p meter in
    none_related stream window (λ (a b : Option (List ℕ)). labels a ≡ labels b) (once_each stream window)
    (same_set contents streams reader number stream p meter apart long window full) first later here there less at also e
