-- Which batches are right, reader by reader.
use Rattle.std.proofs.Common.{◌≡◌, ℕ, zero, suc, ◌+◌, ◌<◌, ◌≤◌, Bool, true, false, ◌&&◌, cond, List, [], ◌∷◌, ◌++◌, Err, Ok, Some, length, take, get_or, map, refl, sym, ap, subst, ◌∙◌, arith, ⊎_elim, IsTrue}
use Rattle.std.specs.Prelude.{◌==◌, IfOk, Result, filter, slice_get, slice_range}
use Rattle.std.specs.List.{list_all, list_any}
use Rattle.std.proofs.lemmas.Bool.{cases_lt, false≢true}
use Rattle.std.proofs.lemmas.Bool.Decides.{nat_tests}
use Rattle.std.proofs.lemmas.List.{length-take, take-take, take_more}
use Rattle.std.proofs.lemmas.List.Elements.{All-filter}
use Rattle.std.proofs.lemmas.List.Folds.{list_any_at}
use Rattle.std.proofs.lemmas.List.Sums.{fold-append}
use Rattle.std.proofs.lemmas.Option.{get_or_from_slice_get, slice_get_within}
use Rattle.metric_audit.specs.Batches.{AreAllRight, FollowsRightly, IsFirstWrong, IsRight, IsRightAt, each_may_follow, mark_after, may_follow, time_after}
use Rattle.metric_audit.specs.Replays.{FindsWrong, GoesOn, IsFirstStrange, IsFirstWrongOf, IsWrongOf, are_of_reader, facts_of_reader, is_batch_of}
use Rattle.metric_history.specs.Journals.{Standing}
use Rattle.metric_facts.specs.declared.facts.FactsFields.{FactsFields as Facts}
use Rattle.metric_facts.specs.declared.facts.NumberedStream.{NumberedStream}
use Rattle.metric_facts.specs.Facts.{in_bounds, is_allowed_set, is_delta, is_of_reader}
use Rattle.metric_facts.specs.Products.{AreDense, IsDense}
use Rattle.metric_history.specs.declared.batch.Batch.{Batch}
use Rattle.metric_history.specs.declared.entry.Entry.{Entry}
use Rattle.metric_history.specs.Points.{stream_points}
use Rattle.metric_history.specs.Windows.{fits_stream, window}

-- an element that is there, and elements of a list that was cut
pub some-at : {X : Type 0} (xs : List X) (i : ℕ) → i < length xs → (x : X) × (slice_get xs i ≡ Some x)
some-at [] i below = absurd (omega arith)
some-at (x ∷ xs) zero below = (x, refl)
some-at (x ∷ xs) (suc i) below = some-at xs i (omega arith)

pub slice_get-take : {X : Type 0} (xs : List X) (n i : ℕ) → i < n → slice_get (take n xs) i ≡ slice_get xs i
slice_get-take xs zero i below = absurd (omega arith)
slice_get-take [] (suc n) i below = refl
slice_get-take (x ∷ xs) (suc n) zero below = refl
slice_get-take (x ∷ xs) (suc n) (suc i) below = slice_get-take xs n i (omega arith)

-- of a reader's streams all are the reader's
filter-twice : (r : ℕ) (streams : List NumberedStream) → filter (is_of_reader r) (filter (is_of_reader r) streams) ≡ filter (is_of_reader r) streams
filter-twice r [] = refl
filter-twice r (s ∷ streams) = at (is_of_reader r s) refl (filter-twice r streams)
  where
    at : (b : Bool) → is_of_reader r s ≡ b → filter (is_of_reader r) (filter (is_of_reader r) streams) ≡ filter (is_of_reader r) streams
        → filter (is_of_reader r) (cond b (s ∷ filter (is_of_reader r) streams) (filter (is_of_reader r) streams)) ≡ cond b (s ∷ filter (is_of_reader r) streams) (filter (is_of_reader r) streams)
    at true e rest =
        ap (λ (b : Bool). cond b (s ∷ filter (is_of_reader r) (filter (is_of_reader r) streams)) (filter (is_of_reader r) (filter (is_of_reader r) streams))) e
        ∙ ap (λ (ss : List NumberedStream). s ∷ ss) rest
    at false e rest = rest

all-own : (r : ℕ) (streams : List NumberedStream) → list_all (is_of_reader r) (filter (is_of_reader r) streams) ≡ true
all-own r [] = refl
all-own r (s ∷ streams) = at (is_of_reader r s) refl (all-own r streams)
  where
    at : (b : Bool) → is_of_reader r s ≡ b → list_all (is_of_reader r) (filter (is_of_reader r) streams) ≡ true → list_all (is_of_reader r) (cond b (s ∷ filter (is_of_reader r) streams) (filter (is_of_reader r) streams)) ≡ true
    at true e rest = ap (λ (b : Bool). b && list_all (is_of_reader r) (filter (is_of_reader r) streams)) e ∙ rest
    at false e rest = rest

pub own-streams-alone : (facts : Facts) (reader : ℕ) → are_of_reader (facts_of_reader facts reader) reader ≡ true
own-streams-alone facts reader = all-own reader facts.streams

own-streams : (facts : Facts) (reader r : ℕ) → r ≡ reader → filter (is_of_reader r) (filter (is_of_reader reader) facts.streams) ≡ filter (is_of_reader r) facts.streams
own-streams facts reader r same =
    subst (λ (n : ℕ). filter (is_of_reader r) (filter (is_of_reader n) facts.streams) ≡ filter (is_of_reader r) facts.streams) same (filter-twice r facts.streams)

pub own-dense : (facts : Facts) (reader : ℕ) → AreDense facts → AreDense (facts_of_reader facts reader)
own-dense facts reader dense = All-filter (is_of_reader reader) (λ (s : NumberedStream). IsTrue s.by_product → IsDense facts.keys s.stream) facts.streams dense

each-own : (facts : Facts) (reader r mark : ℕ) → r ≡ reader → (entries journal : List Entry)
    → each_may_follow (facts_of_reader facts reader) r mark journal entries ≡ each_may_follow facts r mark journal entries
each-own facts reader r mark same [] journal = refl
each-own facts reader r mark same (entry ∷ entries) journal =
    ap (λ (ss : List NumberedStream). (is_allowed_set facts entry.set && (in_bounds facts entry.value && list_all (λ (s : NumberedStream). fits_stream s.stream (window (is_delta facts r) mark journal) entry) ss))
    && each_may_follow (facts_of_reader facts reader) r mark (journal ++ entry ∷ []) entries) (own-streams facts reader r same)
    ∙ ap (λ (b : Bool). may_follow facts r mark journal entry && b) (each-own facts reader r mark same entries (journal ++ entry ∷ []))

points-own : (facts : Facts) (reader r : ℕ) (w : List Entry) → r ≡ reader
    → map (stream_points w) (filter (is_of_reader r) (filter (is_of_reader reader) facts.streams)) ≡ map (stream_points w) (filter (is_of_reader r) facts.streams)
points-own facts reader r w same = ap (map (stream_points w)) (own-streams facts reader r same)

-- The facts with a reader's streams alone tell of its batches what all facts tell.
pub follows-whole : (facts : Facts) (reader instrument start : ℕ) (entries : List Entry) (mark time : ℕ) (b : Batch) → b.reader ≡ reader
    → FollowsRightly (facts_of_reader facts reader) instrument start entries mark time b → FollowsRightly facts instrument start entries mark time b
follows-whole facts reader instrument start entries mark time b same f = record {
  headed = f.headed;
  possible = sym (each-own facts reader b.reader mark same (slice_range entries mark b.mark) (take mark entries)) ∙ f.possible;
  points = f.points ∙ points-own facts reader b.reader (window (is_delta facts b.reader) mark (take b.mark entries)) same;
}

pub follows-own : (facts : Facts) (reader instrument start : ℕ) (entries : List Entry) (mark time : ℕ) (b : Batch) → b.reader ≡ reader
    → FollowsRightly facts instrument start entries mark time b → FollowsRightly (facts_of_reader facts reader) instrument start entries mark time b
follows-own facts reader instrument start entries mark time b same f = record {
  headed = f.headed;
  possible = each-own facts reader b.reader mark same (slice_range entries mark b.mark) (take mark entries) ∙ f.possible;
  points = f.points ∙ sym (points-own facts reader b.reader (window (is_delta facts b.reader) mark (take b.mark entries)) same);
}

pub first-whole : (facts : Facts) (instrument start : ℕ) (entries : List Entry) (batches : List Batch) (reader at : ℕ)
    → IsFirstWrongOf (facts_of_reader facts reader) instrument start entries batches reader at → IsFirstWrongOf facts instrument start entries batches reader at
first-whole facts instrument start entries batches reader at f = record {
  within = f.within;
  wrong = λ below. wrong-whole (f.wrong below);
  earlier = λ other b less here same. right-whole other b same (f.earlier other b less here same);
}
  where
    right-whole : (other : ℕ) (b : Batch) → b.reader ≡ reader → IsRight (facts_of_reader facts reader) instrument start entries (take other batches) b → IsRight facts instrument start entries (take other batches) b
    right-whole other b same r = record {
      known = r.known;
      follows = follows-whole facts reader instrument start entries (mark_after b.reader (take other batches)) (time_after start b.reader (take other batches)) b same r.follows;
    }

    wrong-whole : IsWrongOf (facts_of_reader facts reader) instrument start entries batches reader at → IsWrongOf facts instrument start entries batches reader at
    wrong-whole w = record {
      batch = w.batch;
      here = w.here;
      own = w.own;
      wrong = λ (r : IsRight facts instrument start entries (take at batches) w.batch). w.wrong (record {
        known = r.known;
        follows = follows-own facts reader instrument start entries (mark_after w.batch.reader (take at batches)) (time_after start w.batch.reader (take at batches)) w.batch w.own r.follows;
      });
    }

-- the same where the answer may fail
pub whole-result : {F : Type 0} (facts own : Facts) (instrument start : ℕ) (entries : List Entry) (batches : List Batch) (reader : ℕ) (result : Result ℕ F) → own ≡ facts_of_reader facts reader
    → IfOk result (λ at. IsFirstWrongOf own instrument start entries batches reader at) → IfOk result (λ at. IsFirstWrongOf facts instrument start entries batches reader at)
whole-result facts own instrument start entries batches reader (Ok at) is found =
    first-whole facts instrument start entries batches reader at (subst (λ (f : Facts). IsFirstWrongOf f instrument start entries batches reader at) is found)
whole-result facts own instrument start entries batches reader (Err e) is found = tt

-- no batch of the reader
pub first-none : (facts : Facts) (instrument start : ℕ) (entries : List Entry) (batches : List Batch) (reader : ℕ) → list_any (is_batch_of reader) batches ≡ false
    → IsFirstWrongOf facts instrument start entries batches reader (length batches)
first-none facts instrument start entries batches reader none = record {
  within = omega arith;
  wrong = λ below. absurd (omega arith);
  earlier = λ other b less here same. absurd (never other b less here same);
}
  where
    never : (other : ℕ) (b : Batch) → other < length batches → slice_get batches other ≡ Some b → b.reader ≡ reader → ⊥
    never other b less here same =
        let there : get_or batches other b ≡ b = get_or_from_slice_get batches other b b here in
        let own : is_batch_of reader (get_or batches other b) ≡ true = ap (is_batch_of reader) there ∙ ap (λ (r : ℕ). r == reader) same ∙ itself reader in
        false≢true (sym none ∙ list_any_at (is_batch_of reader) batches other b less own)
      where
        itself : (n : ℕ) → (n == n) ≡ true
        itself n = grind (arith, nat_tests)

-- the batches so far of a reader are right, and its last one had this mark and this time
pub record RightSoFar (facts : Facts) (instrument start : ℕ) (entries : List Entry) (batches : List Batch) (reader at mark time : ℕ) : Type 0 where
  pub mark_is : mark ≡ mark_after reader (take at batches)
  pub time_is : time ≡ time_after start reader (take at batches)
  pub right : (other : ℕ) (b : Batch) → other < at → slice_get batches other ≡ Some b → b.reader ≡ reader → IsRight facts instrument start entries (take other batches) b

cut-next : (batches : List Batch) (at : ℕ) (b : Batch) → at < length batches → b ≡ get_or batches at b → take (at + 1) batches ≡ take at batches ++ b ∷ []
cut-next batches at b below here = take_more batches at b below ∙ ap (λ (x : Batch). take at batches ++ x ∷ []) (sym here)

-- where a batch is right after the reader's last one, it is right after those before it
right-after : (facts : Facts) (instrument start : ℕ) (entries : List Entry) (before : List Batch) (reader mark time : ℕ) (b : Batch) → reader < length facts.delta → b.reader ≡ reader
    → mark ≡ mark_after reader before → time ≡ time_after start reader before → FollowsRightly facts instrument start entries mark time b → IsRight facts instrument start entries before b
right-after facts instrument start entries before reader mark time b below same mark_is time_is f =
    let own_mark : mark ≡ mark_after b.reader before = mark_is ∙ ap (λ (r : ℕ). mark_after r before) (sym same) in
    let own_time : time ≡ time_after start b.reader before = time_is ∙ ap (λ (r : ℕ). time_after start r before) (sym same) in
    record {
      known = omega (arith, same);
      follows = subst (λ (m : ℕ). FollowsRightly facts instrument start entries m (time_after start b.reader before) b) own_mark (subst (λ (t : ℕ). FollowsRightly facts instrument start entries mark t b) own_time f);
    }

pub right-next : (stands : Standing) (facts : Facts) (instrument start : ℕ) (entries : List Entry) (batches : List Batch) (reader at mark time next_mark next_time : ℕ) (b : Batch)
    → reader < length facts.delta → at < length batches → b ≡ get_or batches at b → RightSoFar facts instrument start entries batches reader at mark time
    → GoesOn stands facts instrument start entries reader mark time b true next_mark next_time → RightSoFar facts instrument start entries batches reader (at + 1) next_mark next_time
right-next stands facts instrument start entries batches reader at mark time next_mark next_time b known below here so_far on = record {
  mark_is =
      on.2
      ∙ ap (λ (m : ℕ). cond (b.reader == reader) b.mark m) so_far.mark_is
      ∙ sym (fold-append (λ (m : ℕ) (x : Batch). cond (x.reader == reader) x.mark m) 0 (take at batches) (b ∷ []))
      ∙ ap (mark_after reader) (sym (cut-next batches at b below here));
  time_is =
      on.3
      ∙ ap (λ (t : ℕ). cond (b.reader == reader) b.time t) so_far.time_is
      ∙ sym (fold-append (λ (t : ℕ) (x : Batch). cond (x.reader == reader) x.time t) start (take at batches) (b ∷ []))
      ∙ ap (time_after start reader) (sym (cut-next batches at b below here));
  right = λ other c less there same. ⊎_elim (λ (earlier : other < at). so_far.right other c earlier there same) (λ (later : at ≤ other). last other c (omega arith) there same) (cases_lt other at);
}
  where
    last : (other : ℕ) (c : Batch) → other ≡ at → slice_get batches other ≡ Some c → c.reader ≡ reader → IsRight facts instrument start entries (take other batches) c
    last other c is there same =
        let at_same : slice_get batches at ≡ Some c = ap (slice_get batches) (sym is) ∙ there in
        let b_is : b ≡ c = here ∙ get_or_from_slice_get batches at c b at_same in
        let own : b.reader ≡ reader = ap (λ (x : Batch). x.reader) b_is ∙ same in
        subst (λ (n : ℕ). IsRight facts instrument start entries (take n batches) c) (sym is)
        (subst (λ (x : Batch). IsRight facts instrument start entries (take at batches) x) b_is
        (right-after facts instrument start entries (take at batches) reader mark time b known own so_far.mark_is so_far.time_is (on.0 own)))

-- Up to a place all batches are of readers, those of the first readers are right, and the batch at the place is wrong.
pub record NarrowedTo (facts : Facts) (instrument start : ℕ) (entries : List Entry) (batches : List Batch) (readers reader first : ℕ) : Type 0 where
  pub within : first ≤ length batches
  pub wrong : first < length batches → IsRightAt facts instrument start entries batches first → ⊥
  pub known : (other : ℕ) (b : Batch) → other < first → slice_get batches other ≡ Some b → b.reader < readers
  pub earlier : (other : ℕ) (b : Batch) → other < first → slice_get batches other ≡ Some b → b.reader < reader → IsRight facts instrument start entries (take other batches) b

pub narrowed-first : (facts : Facts) (instrument start : ℕ) (entries : List Entry) (batches : List Batch) (readers first : ℕ) → readers ≡ length facts.delta
    → IsFirstStrange batches readers first → NarrowedTo facts instrument start entries batches readers 0 first
narrowed-first facts instrument start entries batches readers first count f = record {
  within = f.within;
  wrong = λ below right. let b = some-at batches first below in
      let reader_known = (right b.0 b.1).known in
      let strange = f.strange b.0 b.1 in
      absurd (omega (arith, count, reader_known, strange));
  known = f.earlier;
  earlier = λ other b less here before. absurd (omega arith);
}

pub narrowed-next : (facts : Facts) (instrument start : ℕ) (entries : List Entry) (batches : List Batch) (readers reader first at : ℕ)
    → NarrowedTo facts instrument start entries batches readers reader first → IsFirstWrongOf facts instrument start entries (take first batches) reader at
    → NarrowedTo facts instrument start entries batches readers (reader + 1) at
narrowed-next facts instrument start entries batches readers reader first at n f = record {
  within = omega (arith, low, n.within);
  wrong = λ below right. ⊎_elim (λ (less : at < first). cut-wrong less right) (λ (past : first ≤ at). same-wrong (omega (arith, low)) below right) (cases_lt at first);
  known = λ other b less here. n.known other b (omega (arith, low)) here;
  earlier = λ other b less here before. ⊎_elim (λ (sooner : b.reader < reader). n.earlier other b (omega (arith, low)) here sooner) (λ (later : reader ≤ b.reader). own-right other b less here (omega arith)) (cases_lt b.reader reader);
}
  where
    low : at ≤ first
    low = omega (arith, f.within, length-take first batches)

    cut : (k : ℕ) → k ≤ first → take k (take first batches) ≡ take k batches
    cut k less = take-take k first batches less

    cut-wrong : at < first → IsRightAt facts instrument start entries batches at → ⊥
    cut-wrong less right =
        let w = f.wrong (omega (arith, length-take first batches, n.within)) in
        let there : slice_get batches at ≡ Some w.batch = sym (slice_get-take batches first at less) ∙ w.here in
        w.wrong (subst (λ (bs : List Batch). IsRight facts instrument start entries bs w.batch) (sym (cut at low)) (right w.batch there))

    same-wrong : at ≡ first → at < length batches → IsRightAt facts instrument start entries batches at → ⊥
    same-wrong is below right = n.wrong (omega (arith, is)) (subst (IsRightAt facts instrument start entries batches) is right)

    own-right : (other : ℕ) (b : Batch) → other < at → slice_get batches other ≡ Some b → b.reader ≡ reader → IsRight facts instrument start entries (take other batches) b
    own-right other b less here same =
        subst (λ (bs : List Batch). IsRight facts instrument start entries bs b) (cut other (omega (arith, low)))
        (f.earlier other b less (slice_get-take batches first other (omega (arith, low)) ∙ here) same)

-- what was found, as it is answered
pub found-wrong : (facts : Facts) (instrument start : ℕ) (entries : List Entry) (batches : List Batch) (at : ℕ) → at < length batches → FindsWrong facts instrument start entries batches at
    → IsFirstWrong facts instrument start entries batches at
found-wrong facts instrument start entries batches at below f = record { within = below; wrong = f.wrong below; earlier = f.earlier }

pub found-none : (facts : Facts) (instrument start : ℕ) (entries : List Entry) (batches : List Batch) (at : ℕ) → length batches ≤ at → FindsWrong facts instrument start entries batches at
    → AreAllRight facts instrument start entries batches
found-none facts instrument start entries batches at past f = λ place b here. f.earlier place (omega (arith, slice_get_within batches place b here)) b here
