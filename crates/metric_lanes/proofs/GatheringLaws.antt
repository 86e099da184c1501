-- What lanes report together, one after the other.
use Rattle.std.proofs.Common.{◌≡◌, ℕ, zero, suc, ◌+◌, ◌*◌, ◌^◌, ◌<◌, ◌≤◌, ℤ, pos, negsuc, neg_ℤ, ◌*ℤ◌, ◌≤ℤ◌, Bool, true, false, cond, All, List, [], ◌∷◌, ◌++◌, Option, Some, None, length, map, take, drop, get_or, refl, ap, sym, subst, ◌∙◌, arith, length-append, length-take, length-drop}
use Rattle.std.specs.Prelude.{IfSome, IsTrue, FitsSigned, filter}
use Rattle.std.specs.Int.{w64, int_min, int_max}
use Rattle.std.specs.List.{list_all, list_any}
use Rattle.std.proofs.lemmas.Bool.{and_from, and_parts}
use Rattle.std.proofs.lemmas.Int.{ints, clamps}
use Rattle.std.proofs.lemmas.List.{take-append-drop}
use Rattle.std.proofs.lemmas.List.Elements.{All-append, All-cons, All-filter, All-map, All-nil, All-tail}
use Rattle.std.proofs.lemmas.List.Sums.{get_or-le-sum_by}
use Rattle.std.proofs.lemmas.Nat.{mul-le}
use Rattle.metric_aggregate.specs.Bounds.{IsBetween}
use Rattle.metric_aggregate.specs.Value.{kept_sum, value_of}
use Rattle.metric_aggregate.specs.declared.point_value.PointValue.{PointValue}
use Rattle.metric_bounds.specs.Amounts.{low_with, high_with}
use Rattle.metric_bounds.specs.Sums.{keeps_sum_by}
use Rattle.metric_contents.specs.Kinds.{is_monotonic}
use Rattle.metric_contents.specs.declared.contents.Kind.{Kind}
use Rattle.metric_facts.specs.declared.facts.Facts.{Facts}
use Rattle.metric_facts.specs.declared.facts.NumberedStream.{NumberedStream}
use Rattle.metric_facts.specs.Facts.{is_delta, is_of_reader}
use Rattle.metric_history.specs.Aggregations.{aggregation_of, stream_aggregation}
use Rattle.metric_history.specs.declared.batch.Point.{Point}
use Rattle.metric_history.specs.declared.batch.StreamPoints.{StreamPoints}
use Rattle.metric_history.specs.declared.entry.Entry.{Entry}
use Rattle.metric_history.specs.Points.{ascending, overflow, point, points, reported, stream_points, values}
use Rattle.metric_history.specs.Series.{belongs, held, rows}
use Rattle.metric_history.specs.Windows.{window}
use Rattle.metric_safety.specs.SafeFacts.{IsJournal, IsSafeFacts, IsSafeStream, are_admitted, is_admitted, total}
use Rattle.metric_safety.specs.WindowBounds.{BoundsJournals, IsBounded, IsSumWithin, IsValueInRange, IsValueWithin}
use Rattle.metric_slot.specs.SlotAnswers.{Continues, ReportsJournal}
use Rattle.metric_views.specs.declared.stream.Stream.{Stream}
use Rattle.metric_views.specs.declared.stream.StreamAggregation.{StreamAggregation}
use Rattle.metric_views.specs.declared.stream.StreamAggregation.TheVariants as aggregations
use Rattle.metric_lanes.specs.Gathering.{Gathers, GoTogether, of_both}
use Rattle.metric_lanes.specs.Joined.{Interleaves, none, left, right, joined, joins}
use Rattle.metric_lanes.specs.Together.{ArePutTogether, AreStreamsTogether, CanJoinStreams, FitTogether, HasSet, HoldsJournals, IsHeld, IsRising, is_of, joined_at, value_at}
use Rattle.metric_lanes.specs.declared.gathered.Asked.{Asked}
use Rattle.metric_lanes.specs.declared.gathered.Gathered.{Gathered}
use Rattle.metric_lanes.proofs.RisingLaws.{key_of, nothing_of, own_value, points_rise, report_together, together_once}

-- ---- each stream of safe facts holds what is recorded within the budgets

held_by : (own : Facts) (s : Stream) (entries : List Entry) → IsSafeStream own s → length entries ≤ total own → IsBounded own s entries → IsHeld s entries
held_by own s entries safe few bounded = omega (arith, safe.series, few, bounded.series)

pub holds_journals : BoundsJournals → HoldsJournals
holds_journals law own journal safe is =
    λ k d inside. held_by own (get_or own.streams k d).stream journal (safe.streams k d inside) is.budgeted (law own journal false 0 safe is k d inside)

-- ---- numbers of at most so many values are 64-bit numbers

below : ℤ → ℕ
below (pos n) = 0
below (negsuc n) = suc n

above : ℤ → ℕ
above (pos n) = n
above (negsuc n) = 0

times_zero : (n : ℕ) → n * 0 ≡ 0
times_zero n = omega arith

low_is : (n : ℕ) (lo : ℤ) → low_with n lo ≡ neg_ℤ (pos (n * below lo))
unfolding below
low_is n (pos k) =
    let least : int_min (pos k) (pos 0) ≡ pos 0 = omega (arith, ints, clamps) in
    ap (λ z. pos n *ℤ z) least ∙ ap pos (times_zero n) ∙ ap (λ m. neg_ℤ (pos m)) (sym (times_zero n))
low_is n (negsuc k) =
    let least : int_min (negsuc k) (pos 0) ≡ negsuc k = omega (arith, ints, clamps) in
    ap (λ z. pos n *ℤ z) least

high_is : (n : ℕ) (hi : ℤ) → high_with n hi ≡ pos (n * above hi)
unfolding above
high_is n (pos k) =
    let greatest : int_max (pos k) (pos 0) ≡ pos k = omega (arith, ints, clamps) in
    ap (λ z. pos n *ℤ z) greatest
high_is n (negsuc k) =
    let greatest : int_max (negsuc k) (pos 0) ≡ pos 0 = omega (arith, ints, clamps) in
    ap (λ z. pos n *ℤ z) greatest

same_number : (n : ℕ) → n ≤ n
same_number n = omega arith

-- of more values
sum_of_more : (own : Facts) (n most : ℕ) (z : ℤ) → n ≤ most → IsSumWithin own n z → IsSumWithin own most z
sum_of_more own n most z few within =
    let lows : n * below own.lo ≤ most * below own.lo = mul-le n (below own.lo) most (below own.lo) few (same_number (below own.lo)) in
    let highs : n * above own.hi ≤ most * above own.hi = mul-le n (above own.hi) most (above own.hi) few (same_number (above own.hi)) in
    record {
      at_least = omega (arith, ints, low_is n own.lo, low_is most own.lo, lows, within.at_least);
      at_most = omega (arith, ints, high_is n own.hi, high_is most own.hi, highs, within.at_most);
    }

between : (l h z : ℤ) → l ≤ℤ z → z ≤ℤ h → FitsSigned w64 l → FitsSigned w64 h → FitsSigned w64 z
between l h z p q low high = grind (arith, ints, p, q, low, high)

module _ (own : Facts) (s : Stream) (n : ℕ) (safe : IsSafeStream own s) (counts : total own < 2 ^ 64) (few : n ≤ total own) (lo_fits : FitsSigned w64 own.lo) (hi_fits : FitsSigned w64 own.hi) where
  sum_fits : IsTrue (keeps_sum_by s.aggregation s.kind) → (z : ℤ) → IsSumWithin own n z → FitsSigned w64 z
  sum_fits keeps z within =
      let more = sum_of_more own n (total own) z few within in
      between (low_with (total own) own.lo) (high_with (total own) own.hi) z more.at_least more.at_most (safe.low keeps) (safe.high keeps)

  value_fits : (z : ℤ) → IsBetween own.lo own.hi z → FitsSigned w64 z
  value_fits z within = between own.lo own.hi z within.at_least within.at_most lo_fits hi_fits

  kept_fits : (kept : Option ℤ) (keeps : Bool) (vs : List ℤ) → (IsTrue keeps → (z : ℤ) → IsSumWithin own n z → FitsSigned w64 z) → IfSome (kept_sum keeps vs) (IsSumWithin own n) → IfSome (kept_sum keeps vs) (FitsSigned w64)
  kept_fits kept true vs sums within = sums refl _ within
  kept_fits kept false vs sums within = tt

  -- what is reported of them
  told_fits : (vs : List ℤ) → IsValueWithin own n (value_of (stream_aggregation s) vs) → IsValueInRange (value_of (stream_aggregation s) vs)
  told_fits vs = at s.aggregation s.kind sum_fits
    where
      at : (aggregation : StreamAggregation) (kind : Kind) → (IsTrue (keeps_sum_by aggregation kind) → (z : ℤ) → IsSumWithin own n z → FitsSigned w64 z)
          → IsValueWithin own n (value_of (aggregation_of aggregation (is_monotonic kind)) vs) → IsValueInRange (value_of (aggregation_of aggregation (is_monotonic kind)) vs)
      at aggregations.Sum kind sums within = sums refl _ within
      at aggregations.LastValue kind sums within = value_fits _ within
      at (aggregations.Histogram boundaries) kind sums within = record {
        count_fits = omega (arith, within.within, few, counts);
        buckets_fit = λ k d inside. omega (arith, within.within, within.buckets, few, counts, get_or-le-sum_by (λ (m : ℕ). m) _ k d inside);
        sum_fits = kept_fits None (is_monotonic kind) vs sums within.kept_within;
        least_fits = value_fits _ within.least_between;
        greatest_fits = value_fits _ within.greatest_between;
      }

abbrev IsToldOf : Stream → Point → Type 0
IsToldOf s p = (vs : List ℤ) × (p.value ≡ value_of (stream_aggregation s) vs)

-- each point is of some values
all_told : (s : Stream) (entries : List Entry) → All (IsToldOf s) (points s entries)
all_told s entries =
    All-append (IsToldOf s) (map (λ key. point s entries (Some key)) (ascending (held s entries))) (overflow s entries)
    (All-map (IsToldOf s) (λ key. point s entries (Some key)) (ascending (held s entries)) (λ k d inside. (values (rows s entries (Some (get_or (ascending (held s entries)) k d))), refl)))
    (at (list_any (belongs s entries None) entries))
  where
    at : (b : Bool) → All (IsToldOf s) (cond b (point s entries None ∷ []) [])
    at true = All-cons (IsToldOf s) (point s entries None) [] (values (rows s entries None), refl) (All-nil (IsToldOf s))
    at false = All-nil (IsToldOf s)

points_fit : (own : Facts) (s : Stream) (entries : List Entry) → IsSafeStream own s → total own < 2 ^ 64 → length entries ≤ total own → FitsSigned w64 own.lo → FitsSigned w64 own.hi → IsBounded own s entries
    → All (λ (p : Point). IsValueInRange p.value) (points s entries)
points_fit own s entries safe counts few lo_fits hi_fits bounded k d inside =
    let told = all_told s entries k d inside in
    subst IsValueInRange (sym told.1)
    (told_fits own s (length entries) safe counts few lo_fits hi_fits told.0 (subst (IsValueWithin own (length entries)) told.1 (bounded.numbers k d inside)))

-- ---- points of one series of two lanes fit, where all points of both do

value_found : (ps : List Point) → IsRising ps → (k : ℕ) (d : Point) → k < length ps → (key : List ℕ) → (get_or ps k d).set ≡ Some key → value_at ps key ≡ Some (get_or ps k d).value
value_found [] up k d inside key e = absurd (omega arith)
value_found (p ∷ ps) up zero d inside key e = own_value key p ps e
value_found (p ∷ ps) up (suc k) d inside key e = at (is_of p.set key) refl (value_found ps up.1.1 k d (omega arith) key e)
  where
    apart : (v : PointValue) → value_at ps key ≡ None → value_at ps key ≡ Some v → ⊥
    apart v a b = cc

    at : (b : Bool) → is_of p.set key ≡ b → value_at ps key ≡ Some (get_or ps k d).value → cond b (Some p.value) (value_at ps key) ≡ Some (get_or ps k d).value
    at true own found = absurd (apart (get_or ps k d).value (nothing_of p.set key ps up.1.0 own) found)
    at false own found = found

holds_at : (P : PointValue → Type 0) (ps : List Point) → All (λ (p : Point). P p.value) ps → (key : List ℕ) (v : PointValue) → value_at ps key ≡ Some v → P v
holds_at P [] all key v e = absurd cc
holds_at P (p ∷ ps) all key v e = at (is_of p.set key) e (holds_at P ps (All-tail (λ (q : Point). P q.value) p ps all) key v)
  where
    same : (a b : PointValue) → Some a ≡ Some b → a ≡ b
    same a b e = cc

    at : (b : Bool) → cond b (Some p.value) (value_at ps key) ≡ Some v → (value_at ps key ≡ Some v → P v) → P v
    at true e rest = subst P (same p.value v e) (all 0 p (omega arith))
    at false e rest = rest e

has_set : (ps : List Point) → IsRising ps → (k : ℕ) (d : Point) → k < length ps → HasSet (get_or ps k d).set
has_set [] up k d inside = absurd (omega arith)
has_set (p ∷ ps) up zero d inside = up.0
has_set (p ∷ ps) up (suc k) d inside = has_set ps up.1.1 k d (omega arith)

fit_together : (a b all : List Point) → ArePutTogether a b all → IsRising a → IsRising b → All (λ (p : Point). IsValueInRange p.value) all → FitTogether a b
fit_together a b all put up down fits i d inside j e within same =
    let own = key_of (get_or a i d).set (has_set a up i d inside) in
    let first = value_found a up i d inside own.0 own.1 in
    let second = value_found b down j e within own.0 (sym same ∙ own.1) in
    holds_at IsValueInRange all fits own.0 (joined (get_or a i d).value (get_or b j e).value)
    (put.each own.0
    ∙ ap (λ (x : Option PointValue). joined_at x (value_at b own.0)) first
    ∙ ap (joined_at (Some (get_or a i d).value)) second)

-- ---- streams

pub appended : {X : Type 0} (xs ys : List X) → Interleaves xs ys (xs ++ ys)
appended [] [] = none
appended [] (y ∷ ys) = right (appended [] ys)
appended (x ∷ xs) ys = left (appended xs ys)

-- a stream whose values of both lanes join
record IsFit (xs ys : List Entry) (s : NumberedStream) : Type 0 where
  joins : IsTrue (joins (stream_aggregation s.stream))
  first : IsHeld s.stream xs
  second : IsHeld s.stream ys
  both : IsHeld s.stream (xs ++ ys)
  fits : All (λ (p : Point). IsValueInRange p.value) (points s.stream (xs ++ ys))

put : (xs ys : List Entry) (s : NumberedStream) → IsFit xs ys s → ArePutTogether (points s.stream xs) (points s.stream ys) (points s.stream (xs ++ ys))
put xs ys s fit = report_together s.stream xs ys (xs ++ ys) fit.joins (appended xs ys) fit.first fit.second fit.both

can_join : (xs ys : List Entry) (streams : List NumberedStream) → All (IsFit xs ys) streams → CanJoinStreams (map (stream_points xs) streams) (map (stream_points ys) streams)
can_join xs ys [] all = tt
can_join xs ys (s ∷ streams) all =
    let fit = all 0 s (omega arith) in
    let first = points_rise s.stream xs fit.first in
    let second = points_rise s.stream ys fit.second in (
      record { first = first; second = second; fit = fit_together (points s.stream xs) (points s.stream ys) (points s.stream (xs ++ ys)) (put xs ys s fit) first second fit.fits },
      can_join xs ys streams (All-tail (IsFit xs ys) s streams all),
    )

same_streams : (a b : StreamPoints) → a.stream ≡ b.stream → a.points ≡ b.points → a ≡ b
same_streams a b e f i = record { stream = e i; points = f i }

joined_streams : (xs ys : List Entry) (streams : List NumberedStream) (told : List StreamPoints) → All (IsFit xs ys) streams
    → AreStreamsTogether (map (stream_points xs) streams) (map (stream_points ys) streams) told → told ≡ map (stream_points (xs ++ ys)) streams
joined_streams xs ys [] [] all is = refl
joined_streams xs ys [] (t ∷ told) all is = absurd is
joined_streams xs ys (s ∷ streams) [] all is = absurd is
joined_streams xs ys (s ∷ streams) (t ∷ told) all is =
    let same = same_streams t (stream_points (xs ++ ys) s) is.0.stream
    (together_once (points s.stream xs) (points s.stream ys) t.points (points s.stream (xs ++ ys)) is.0.points (put xs ys s (all 0 s (omega arith)))) in
    ap (λ (x : StreamPoints). x ∷ told) same
    ∙ ap (λ (rest : List StreamPoints). stream_points (xs ++ ys) s ∷ rest) (joined_streams xs ys streams told (All-tail (IsFit xs ys) s streams all) is.1)

-- ---- recordings that an instrument admits

all_both : (p : Entry → Bool) (xs ys : List Entry) → list_all p xs ≡ true → list_all p ys ≡ true → list_all p (xs ++ ys) ≡ true
all_both p [] ys a b = b
all_both p (x ∷ xs) ys a b =
    let parts = and_parts (p x) (list_all p xs) a in
    and_from (p x) (list_all p (xs ++ ys)) parts.0 (all_both p xs ys parts.1 b)

all_first : (p : Entry → Bool) (xs ys : List Entry) → list_all p (xs ++ ys) ≡ true → list_all p xs ≡ true
all_first p [] ys a = refl
all_first p (x ∷ xs) ys a =
    let parts = and_parts (p x) (list_all p (xs ++ ys)) a in
    and_from (p x) (list_all p xs) parts.0 (all_first p xs ys parts.1)

all_second : (p : Entry → Bool) (xs ys : List Entry) → list_all p (xs ++ ys) ≡ true → list_all p ys ≡ true
all_second p [] ys a = a
all_second p (x ∷ xs) ys a =
    let parts = and_parts (p x) (list_all p (xs ++ ys)) a in all_second p xs ys parts.1

-- a lane's recordings that the reader's last batch counted (delta), or none
front : Bool → ℕ → List Entry → List Entry
front true m journal = take m journal
front false m journal = []

front_all : (p : Entry → Bool) (d : Bool) (m : ℕ) (journal : List Entry) → list_all p journal ≡ true → list_all p (front d m journal) ≡ true
unfolding front
front_all p true m journal a =
    all_first p (take m journal) (drop m journal) (subst (λ (es : List Entry). list_all p es ≡ true) (sym (take-append-drop m journal)) a)
front_all p false m journal a = refl

back_all : (p : Entry → Bool) (d : Bool) (m : ℕ) (journal : List Entry) → list_all p journal ≡ true → list_all p (window d m journal) ≡ true
back_all p true m journal a =
    all_second p (take m journal) (drop m journal) (subst (λ (es : List Entry). list_all p es ≡ true) (sym (take-append-drop m journal)) a)
back_all p false m journal a = a

front_long : (d : Bool) (m : ℕ) (journal : List Entry) → m ≤ length journal → length (front d m journal) ≡ cond d m 0
unfolding front
front_long true m journal inside = omega (arith, inside, length-take m journal)
front_long false m journal inside = refl

both_long : (d : Bool) (m : ℕ) (journal : List Entry) → m ≤ length journal → length (front d m journal) + length (window d m journal) ≡ length journal
unfolding front
both_long true m journal inside = omega (arith, inside, length-take m journal, length-drop m journal)
both_long false m journal inside = omega arith

drop_own : (xs ys : List Entry) → drop (length xs) (xs ++ ys) ≡ ys
drop_own [] ys = refl
drop_own (x ∷ xs) ys = drop_own xs ys

covers : (d : Bool) (seen : ℕ) (before covered : List Entry) → length before ≡ cond d seen 0 → window d seen (before ++ covered) ≡ covered
covers true seen before covered e = ap (λ (n : ℕ). drop n (before ++ covered)) (sym e) ∙ drop_own before covered
covers false seen [] covered e = refl
covers false seen (x ∷ before) covered e = absurd (omega (arith, e))

begun : (d : Bool) (a b m n : ℕ) → a ≡ cond d m 0 → b ≡ cond d n 0 → a + b ≡ cond d (m + n) 0
begun true a b m n e f = omega (arith, e, f)
begun false a b m n e f = omega (arith, e, f)

all_at : {X : Type 0} (p : X → Bool) (xs : List X) → list_all p xs ≡ true → All (λ x. p x ≡ true) xs
all_at p [] a k d inside = absurd (omega arith)
all_at p (x ∷ xs) a zero d inside = (and_parts (p x) (list_all p xs) a).0
all_at p (x ∷ xs) a (suc k) d inside = all_at p xs (and_parts (p x) (list_all p xs) a).1 k d (omega arith)

-- ---- one lane more

module _ (law : BoundsJournals) (own : Facts) (safe : IsSafeFacts own) (a b : Gathered) (h : Gathers own a) (k : Gathers own b) (asked : b.asked ≡ a.asked) (go : GoTogether own a b) where
  abbrev delta : Bool
  delta = is_delta own a.asked.reader

  goes : Continues own a.asked.start a.asked.reader b.last b.batch
  goes = subst (λ (x : Asked). Continues own x.start x.reader b.last b.batch) asked k.continues

  of : ReportsJournal own a.asked.reader b.last.mark b.batch
  of = subst (λ (x : Asked). ReportsJournal own x.reader b.last.mark b.batch) asked k.journal

  abbrev xs : List Entry
  xs = window delta a.last.mark h.journal.journal

  abbrev ys : List Entry
  ys = window delta b.last.mark of.journal

  abbrev before : List Entry
  before = front delta a.last.mark h.journal.journal ++ front delta b.last.mark of.journal

  inside_a : a.last.mark ≤ length h.journal.journal
  inside_a = omega (arith, h.continues.mark, h.journal.counted)

  inside_b : b.last.mark ≤ length of.journal
  inside_b = omega (arith, goes.mark, of.counted)

  long : length (before ++ (xs ++ ys)) ≡ a.batch.mark + b.batch.mark
  long =
      omega (
        arith,
        h.journal.counted,
        of.counted,
        length-append before (xs ++ ys),
        length-append (front delta a.last.mark h.journal.journal) (front delta b.last.mark of.journal),
        length-append xs ys,
        both_long delta a.last.mark h.journal.journal inside_a,
        both_long delta b.last.mark of.journal inside_b,
      )

  admitted_both : are_admitted own (xs ++ ys) ≡ true
  admitted_both =
      all_both (is_admitted own) xs ys (back_all (is_admitted own) delta a.last.mark h.journal.journal h.journal.admitted.admitted)
      (back_all (is_admitted own) delta b.last.mark of.journal of.admitted.admitted)

  journal : IsJournal own (before ++ (xs ++ ys))
  journal = record {
    admitted =
        all_both (is_admitted own) before (xs ++ ys)
        (all_both (is_admitted own) (front delta a.last.mark h.journal.journal) (front delta b.last.mark of.journal)
        (front_all (is_admitted own) delta a.last.mark h.journal.journal h.journal.admitted.admitted)
        (front_all (is_admitted own) delta b.last.mark of.journal of.admitted.admitted))
        admitted_both;
    budgeted = omega (arith, long, go.budgeted);
  }

  few : length (xs ++ ys) ≤ total own
  few = omega (arith, long, go.budgeted, length-append before (xs ++ ys))

  of_both_windows : IsJournal own (xs ++ ys)
  of_both_windows = record { admitted = admitted_both; budgeted = few }

  of_first : IsJournal own xs
  of_first = record {
    admitted = back_all (is_admitted own) delta a.last.mark h.journal.journal h.journal.admitted.admitted;
    budgeted = omega (arith, few, length-append xs ys);
  }

  of_second : IsJournal own ys
  of_second = record {
    admitted = back_all (is_admitted own) delta b.last.mark of.journal of.admitted.admitted;
    budgeted = omega (arith, few, length-append xs ys);
  }

  module _ (lo_fits : FitsSigned w64 own.lo) (hi_fits : FitsSigned w64 own.hi) where
    all_fit : All (IsFit xs ys) own.streams
    all_fit i d inside =
        let s : NumberedStream = get_or own.streams i d in
        record {
          joins = all_at (λ (s : NumberedStream). joins (stream_aggregation s.stream)) own.streams go.join i d inside;
          first = holds_journals law own xs safe of_first i d inside;
          second = holds_journals law own ys safe of_second i d inside;
          both = holds_journals law own (xs ++ ys) safe of_both_windows i d inside;
          fits = points_fit own s.stream (xs ++ ys) (safe.streams i d inside) safe.counts few lo_fits hi_fits (law own (xs ++ ys) false 0 safe of_both_windows i d inside);
        }

    told_fit : All (IsFit xs ys) (filter (is_of_reader a.asked.reader) own.streams)
    told_fit = All-filter (is_of_reader a.asked.reader) (IsFit xs ys) own.streams all_fit

    pub can_gather : CanJoinStreams a.batch.streams b.batch.streams
    can_gather =
        subst (λ (x : List StreamPoints). CanJoinStreams x b.batch.streams) (sym h.journal.streams)
        (subst (CanJoinStreams (reported own a.asked.reader xs)) (sym of.streams)
        (can_join xs ys (filter (is_of_reader a.asked.reader) own.streams) told_fit))

    pub gathers_both : (streams : List StreamPoints) → AreStreamsTogether a.batch.streams b.batch.streams streams → Gathers own (of_both a b streams)
    gathers_both streams put = record {
      continues = record {
        plan = h.continues.plan;
        reader = h.continues.reader;
        instrument = h.continues.instrument;
        from = begun delta a.batch.from b.batch.from a.last.mark b.last.mark h.continues.from goes.from;
        mark = omega (arith, h.continues.mark, goes.mark);
        start = h.continues.start;
      };
      journal = record {
        journal = before ++ (xs ++ ys);
        admitted = journal;
        counted = long;
        streams =
            joined_streams xs ys (filter (is_of_reader a.asked.reader) own.streams) streams told_fit
            (subst (λ (x : List StreamPoints). AreStreamsTogether (reported own a.asked.reader xs) x streams) of.streams
            (subst (λ (x : List StreamPoints). AreStreamsTogether x b.batch.streams streams) h.journal.streams put))
            ∙ ap (reported own a.asked.reader) (sym (covers delta (a.last.mark + b.last.mark) before (xs ++ ys) counted_before));
      };
      time = h.time;
    }
      where
        counted_before : length before ≡ cond delta (a.last.mark + b.last.mark) 0
        counted_before =
            length-append (front delta a.last.mark h.journal.journal) (front delta b.last.mark of.journal)
            ∙ begun delta (length (front delta a.last.mark h.journal.journal)) (length (front delta b.last.mark of.journal)) a.last.mark b.last.mark
            (front_long delta a.last.mark h.journal.journal inside_a) (front_long delta b.last.mark of.journal inside_b)
