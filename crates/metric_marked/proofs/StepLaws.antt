-- What is done to the first tables, by what is done to the next one.
use Rattle.std.proofs.Common.{◌≡◌, ℕ, ℤ, zero, suc, ◌+◌, ◌<◌, ◌≤◌, Bool, true, false, ◌&&◌, cond, List, [], ◌∷◌, ◌++◌, length, take, get_or, refl, sym, ap, subst, ◌∙◌, arith, append_assoc, add-one, Err}
use Rattle.std.proofs.lemmas.List.{append-nil, map-append}
use Rattle.std.proofs.lemmas.List.Elements.{filter-append}
use Rattle.std.specs.List.{list_all}
use Rattle.std.specs.Prelude.{filter, map, slice_set, if◌then◌else◌}
use Rattle.metric_facts.specs.Facts.{is_of_reader}
use Rattle.metric_history.specs.Points.{stream_points, with_points}
use Rattle.metric_history.specs.declared.batch.StreamPoints.{StreamPoints}
use Rattle.metric_facts.specs.declared.facts.NumberedStream.{NumberedStream}
use Rattle.metric_history.specs.Windows.{fits_stream}
use Rattle.metric_history.specs.declared.entry.Entry.{Entry}
use Rattle.metric_series.specs.Calls.{JudgesValue, TakesRecording, is_in_range}
use Rattle.metric_marked.specs.StreamSeries.{StreamSeriesValue, stream_series}
use Rattle.metric_series.specs.declared.fault.SeriesFault.{SeriesFault}
use Rattle.metric_series.specs.declared.fault.SeriesFault.TheVariants.{SumRange, Memory}
use Rattle.metric_series.specs.declared.place.Place.{Place}
use Rattle.metric_marked.specs.Marks.{AddsAllPoints, AddsPoints, EmptiesOne, EmptyFor, EmptiesReader, JudgesAll, KeepPlaces, StandAll, StandsFor, TableStands, TakesAll, weightier}
use Rattle.metric_marked.specs.Stepwise.{AreInRange, AreReady, EachAt, IsReady, IsReadyFor, IsSameStream, Puts, Restores}
use Rattle.metric_marked.specs.declared.stream_table.StreamTable.{StreamTable}
use Rattle.metric_marked.proofs.TableLaws.{judges-cons, keeps-cons, keeps-same}

-- the next table is what it was
pub each-rest : {P : Type 0} (R : StreamTable → StreamTable → P → Type 0) (old new : List StreamTable) (ps : List P) (i : ℕ) (d : StreamTable)
    → EachAt R old new (take i ps) → length ps ≤ length old → i < length ps → get_or new i d ≡ get_or old i d
each-rest R old new [] i d each long below = absurd (omega arith)
each-rest R [] new (p ∷ ps) i d each long below = absurd (omega arith)
each-rest R (o ∷ old) new (p ∷ ps) zero d each long below = ap (λ (xs : List StreamTable). get_or xs 0 d) each
each-rest R (o ∷ old) [] (p ∷ ps) (suc i) d each long below = absurd each
each-rest R (o ∷ old) (n ∷ new) (p ∷ ps) (suc i) d each long below = each-rest R old new ps i d each.1 (omega arith) (omega arith)

-- the next table has changed, too
pub each-next : {P : Type 0} (R : StreamTable → StreamTable → P → Type 0) (old new : List StreamTable) (ps : List P) (i : ℕ) (d x : StreamTable) (e : P)
    → EachAt R old new (take i ps) → length ps ≤ length old → i < length ps → R (get_or old i d) x (get_or ps i e)
    → EachAt R old (slice_set new i x) (take (suc i) ps)
each-next R old new [] i d x e each long below next = absurd (omega arith)
each-next R [] new (p ∷ ps) i d x e each long below next = absurd (omega arith)
each-next R (o ∷ old) new (p ∷ ps) zero d x e each long below next =
    subst (λ (xs : List StreamTable). EachAt R (o ∷ old) (slice_set xs 0 x) (p ∷ [])) (sym each) (next, refl)
each-next R (o ∷ old) [] (p ∷ ps) (suc i) d x e each long below next = absurd each
each-next R (o ∷ old) (n ∷ new) (p ∷ ps) (suc i) d x e each long below next = (each.0, each-next R old new ps i d x e each.1 (omega arith) (omega arith) next)

-- and a thing is put last
pub each-push : {P : Type 0} (R : StreamTable → StreamTable → P → Type 0) (old new : List StreamTable) (ps : List P) (d x : StreamTable) (p : P)
    → EachAt R old new ps → length ps < length old → R (get_or old (length ps) d) x p
    → EachAt R old (slice_set new (length ps) x) (ps ++ p ∷ [])
each-push R [] new ps d x p each below next = absurd (omega arith)
each-push R (o ∷ old) new [] d x p each below next =
    subst (λ (xs : List StreamTable). EachAt R (o ∷ old) (slice_set xs 0 x) (p ∷ [])) (sym each) (next, refl)
each-push R (o ∷ old) [] (q ∷ ps) d x p each below next = absurd each
each-push R (o ∷ old) (n ∷ new) (q ∷ ps) d x p each below next = (each.0, each-push R old new ps d x p each.1 (omega arith) next)

-- the next table is what it was, where things are put last
pub each-after : {P : Type 0} (R : StreamTable → StreamTable → P → Type 0) (old new : List StreamTable) (ps : List P) (d : StreamTable)
    → EachAt R old new ps → length ps < length old → get_or new (length ps) d ≡ get_or old (length ps) d
each-after R [] new ps d each below = absurd (omega arith)
each-after R (o ∷ old) new [] d each below = ap (λ (xs : List StreamTable). get_or xs 0 d) each
each-after R (o ∷ old) [] (q ∷ ps) d each below = absurd each
each-after R (o ∷ old) (n ∷ new) (q ∷ ps) d each below = each-after R old new ps d each.1 (omega arith)

-- a table that is ready at a place is so for the place at the same index
pub ready-at : (entry : Entry) (tables : List StreamTable) (places : List Place) (i : ℕ) (d : StreamTable) (e : Place)
    → AreReady entry tables places → i < length places → IsReady entry (get_or tables i d) (get_or places i e)
ready-at entry [] [] i d e all below = absurd (omega arith)
ready-at entry [] (place ∷ places) i d e all below = absurd all
ready-at entry (t ∷ tables) [] i d e all below = absurd all
ready-at entry (t ∷ tables) (place ∷ places) zero d e all below = all.0
ready-at entry (t ∷ tables) (place ∷ places) (suc i) d e all below = ready-at entry tables places i d e all.1 (omega arith)

-- tables that were made ready, each for its place
pub readied : (entry : Entry) (old new : List StreamTable) (places : List Place) → EachAt (IsReadyFor entry) old new places → length places ≡ length old
    → AreReady entry new places
readied entry [] new [] each long = subst (λ (xs : List StreamTable). AreReady entry xs []) (sym each) tt
readied entry (o ∷ old) new [] each long = absurd (omega arith)
readied entry [] new (p ∷ ps) each long = absurd each
readied entry (o ∷ old) [] (p ∷ ps) each long = absurd each
readied entry (o ∷ old) (n ∷ new) (p ∷ ps) each long = ((o, each.0), readied entry old new ps each.1 (omega arith))

-- what was made ready and taken back is what it was
pub restored : (entry : Entry) (old ready new : List StreamTable) (places : List Place) → EachAt (IsReadyFor entry) old ready places → EachAt Restores ready new places → new ≡ old
restored entry old ready new [] each back = back ∙ each
restored entry [] ready new (p ∷ ps) each back = absurd each
restored entry (o ∷ old) [] new (p ∷ ps) each back = absurd each
restored entry (o ∷ old) (r ∷ ready) [] (p ∷ ps) each back = absurd back
restored entry (o ∷ old) (r ∷ ready) (n ∷ new) (p ∷ ps) each back =
    ap (λ (x : StreamTable). x ∷ new) (back.0 entry o each.0) ∙ ap (λ (xs : List StreamTable). o ∷ xs) (restored entry old ready new ps each.1 back.1)

taken-one : (entry : Entry) (o r n : StreamTable) (place : Place) (s : NumberedStream) (windows : ℕ → List Entry)
    → IsReadyFor entry o r place → Puts entry r n place → StandsFor o s (windows s.stream.reader)
    → StandsFor n s (windows s.stream.reader ++ entry ∷ [])
taken-one entry o r n place s windows ready puts stands =
    let put = puts o ready in
    record {
      number = put.0.number ∙ stands.number;
      reader = put.0.reader ∙ stands.reader;
      stands = put.1 s.stream (windows s.stream.reader) entry.recorder stands.stands;
    }

-- no table stands for no stream, whatever the windows
none-stand : (streams : List NumberedStream) (windows later : ℕ → List Entry) → StandAll [] streams windows → StandAll [] streams later
none-stand [] windows later all = tt
none-stand (s ∷ streams) windows later all = absurd all

-- what was made ready and put in is taken
pub taken : (entry : Entry) (old ready new : List StreamTable) (places : List Place) → EachAt (IsReadyFor entry) old ready places
    → EachAt (Puts entry) ready new places → length places ≡ length old → TakesAll old new entry
taken entry [] ready new [] each put long streams windows all =
    subst (λ (xs : List StreamTable). StandAll xs streams (λ reader. windows reader ++ entry ∷ [])) (sym (put ∙ each))
    (none-stand streams windows (λ reader. windows reader ++ entry ∷ []) all)
taken entry (o ∷ old) ready new [] each put long streams windows all = absurd (omega arith)
taken entry [] ready new (p ∷ ps) each put long streams windows all = absurd each
taken entry (o ∷ old) [] new (p ∷ ps) each put long streams windows all = absurd each
taken entry (o ∷ old) (r ∷ ready) [] (p ∷ ps) each put long streams windows all = absurd put
taken entry (o ∷ old) (r ∷ ready) (n ∷ new) (p ∷ ps) each put long [] windows all = absurd all
taken entry (o ∷ old) (r ∷ ready) (n ∷ new) (p ∷ ps) each put long (s ∷ streams) windows all =
    (taken-one entry o r n p s windows each.0 put.0 all.0, taken entry old ready new ps each.1 put.1 (omega arith) streams windows all.1)

-- one table more stays in range
pub in_range-next : (entry : Entry) (tables : List StreamTable) (i : ℕ) (d : StreamTable) → AreInRange entry (take i tables) → i < length tables
    → JudgesValue (TableStands (get_or tables i d)) entry.set entry.value true → AreInRange entry (take (suc i) tables)
in_range-next entry [] i d fits below next = absurd (omega arith)
in_range-next entry (t ∷ tables) zero d fits below next = (next, tt)
in_range-next entry (t ∷ tables) (suc i) d fits below next = (fits.0, in_range-next entry tables i d fits.1 (omega arith) next)

-- all do
pub judges-all : (entry : Entry) (tables : List StreamTable) → AreInRange entry tables → JudgesAll tables entry true
judges-all entry [] fits [] windows all = refl
judges-all entry [] fits (s ∷ streams) windows all = absurd all
judges-all entry (t ∷ tables) fits streams windows all = judges-cons t tables entry true true fits.0 (judges-all entry tables fits.1) streams windows all

false-last : (b : Bool) → (b && false) ≡ false
false-last true = refl
false-last false = refl

-- one does not
pub judges-one : (entry : Entry) (tables : List StreamTable) (i : ℕ) (d : StreamTable) → i < length tables
    → JudgesValue (TableStands (get_or tables i d)) entry.set entry.value false → JudgesAll tables entry false
judges-one entry [] i d below unfit streams windows all = absurd (omega arith)
judges-one entry (t ∷ tables) zero d below unfit [] windows all = absurd all
judges-one entry (t ∷ tables) zero d below unfit (s ∷ streams) windows all =
    ap (λ (v : Bool). v && list_all (λ (s : NumberedStream). fits_stream s.stream (windows s.stream.reader) entry) streams)
    (unfit s.stream (windows s.stream.reader) entry.recorder all.0.stands)
judges-one entry (t ∷ tables) (suc i) d below unfit [] windows all = absurd all
judges-one entry (t ∷ tables) (suc i) d below unfit (s ∷ streams) windows all =
    ap (λ (v : Bool). fits_stream s.stream (windows s.stream.reader) entry && v) (judges-one entry tables i d (omega arith) unfit streams windows all.1)
    ∙ false-last (fits_stream s.stream (windows s.stream.reader) entry)

stands-emptied : (reader : ℕ) (old new : List StreamTable) → EachAt (λ o n (t : StreamTable). EmptiesOne o n reader) old new old
    → (streams : List NumberedStream) (windows later : ℕ → List Entry) → EmptyFor windows later reader → StandAll old streams windows → StandAll new streams later
stands-emptied reader [] new each streams windows later empty all =
    subst (λ (xs : List StreamTable). StandAll xs streams later) (sym each) (none-stand streams windows later all)
stands-emptied reader (o ∷ old) [] each streams windows later empty all = absurd each
stands-emptied reader (o ∷ old) (n ∷ new) each [] windows later empty all = absurd all
stands-emptied reader (o ∷ old) (n ∷ new) each (s ∷ streams) windows later empty all =
    (each.0.stands s windows later empty all.0, stands-emptied reader old new each.1 streams windows later empty all.1)

keeps-emptied : (reader : ℕ) (old new : List StreamTable) → EachAt (λ o n (t : StreamTable). EmptiesOne o n reader) old new old → KeepPlaces old new
keeps-emptied reader [] new each = keeps-same [] new each
keeps-emptied reader (o ∷ old) [] each = absurd each
keeps-emptied reader (o ∷ old) (n ∷ new) each = keeps-cons o n old new each.0.places (keeps-emptied reader old new each.1)

-- each table emptied, where it is the reader's
pub emptied : (reader : ℕ) (old new : List StreamTable) → EachAt (λ o n (t : StreamTable). EmptiesOne o n reader) old new old → EmptiesReader old new reader
emptied reader old new each = record { stands = stands-emptied reader old new each; places = keeps-emptied reader old new each }

-- tables that were made ready, and took a recording, have the places that they had
pub kept : (entry : Entry) (old ready new : List StreamTable) (places : List Place) → EachAt (IsReadyFor entry) old ready places
    → EachAt (Puts entry) ready new places → KeepPlaces old new
kept entry old ready new [] each put = keeps-same old new (put ∙ each)
kept entry [] ready new (p ∷ ps) each put = absurd each
kept entry (o ∷ old) [] new (p ∷ ps) each put = absurd each
kept entry (o ∷ old) (r ∷ ready) [] (p ∷ ps) each put = absurd put
kept entry (o ∷ old) (r ∷ ready) (n ∷ new) (p ∷ ps) each put =
    keeps-cons o n old new (put.0 o each.0).0.places (kept entry old ready new ps each.1 put.1)

-- the streams of all tables up to an index, and the one there
record LastStream (tables : List StreamTable) (i : ℕ) (d : StreamTable) (streams : List NumberedStream) (windows : ℕ → List Entry) : Type 0 where
  before : List NumberedStream
  own : NumberedStream
  whole : streams ≡ before ++ own ∷ []
  stand : StandAll (take i tables) before windows
  last : StandsFor (get_or tables i d) own (windows own.stream.reader)

last-stream : (tables : List StreamTable) (i : ℕ) (d : StreamTable) (streams : List NumberedStream) (windows : ℕ → List Entry) → i < length tables
    → StandAll (take (suc i) tables) streams windows → LastStream tables i d streams windows
last-stream [] i d streams windows below all = absurd (omega arith)
last-stream (t ∷ tables) zero d [] windows below all = absurd all
last-stream (t ∷ tables) zero d (s ∷ []) windows below all = record { before = []; own = s; whole = refl; stand = tt; last = all.0 }
last-stream (t ∷ tables) zero d (s ∷ (r ∷ streams)) windows below all = absurd all.1
last-stream (t ∷ tables) (suc i) d [] windows below all = absurd all
last-stream (t ∷ tables) (suc i) d (s ∷ streams) windows below all =
    let rest = last-stream tables i d streams windows (omega arith) all.1 in
    record {
      before = s ∷ rest.before;
      own = rest.own;
      whole = ap (λ (xs : List NumberedStream). s ∷ xs) rest.whole;
      stand = (all.0, rest.stand);
      last = rest.last;
    }

with-points : (reader : ℕ) (window : List Entry) (all : List StreamPoints) (s : NumberedStream)
    → with_points reader window all s ≡ all ++ map (stream_points window) (filter (is_of_reader reader) (s ∷ []))
with-points reader window all s = elim (is_of_reader reader s) as (λ (b : Bool). (if b then all ++ stream_points window s ∷ [] else all) ≡ all ++ map (stream_points window) (cond b (s ∷ []) [])) [ true ↦ refl | false ↦ sym (append-nil all) ]

-- the points of one table more
pub adds-next : (old all new : List StreamPoints) (tables : List StreamTable) (i : ℕ) (d : StreamTable) (reader : ℕ) → AddsAllPoints old all (take i tables) reader
    → i < length tables → AddsPoints all new (get_or tables i d) reader → AddsAllPoints old new (take (suc i) tables) reader
adds-next old all new tables i d reader before below next streams windows stands =
    let l = last-stream tables i d streams windows below stands in
    let shown : List NumberedStream → List StreamPoints = λ xs. map (stream_points (windows reader)) (filter (is_of_reader reader) xs) in
    next l.own windows l.last
    ∙ with-points reader (windows reader) all l.own
    ∙ ap (λ (xs : List StreamPoints). xs ++ map (stream_points (windows reader)) (filter (is_of_reader reader) (l.own ∷ []))) (before l.before windows l.stand)
    ∙ append_assoc old _ _
    ∙ ap (λ (xs : List StreamPoints). old ++ xs) (sym (map-append (stream_points (windows reader)) (filter (is_of_reader reader) l.before) _))
    ∙ ap (λ (xs : List NumberedStream). old ++ map (stream_points (windows reader)) xs) (sym (filter-append (is_of_reader reader) l.before (l.own ∷ [])))
    ∙ ap (λ (xs : List NumberedStream). old ++ map (stream_points (windows reader)) (filter (is_of_reader reader) xs)) (sym l.whole)

pub length-stand : (tables : List StreamTable) (streams : List NumberedStream) (windows : ℕ → List Entry) → StandAll tables streams windows → length tables ≡ length streams
length-stand [] [] windows all = refl
length-stand [] (s ∷ streams) windows all = absurd all
length-stand (t ∷ tables) [] windows all = absurd all
length-stand (t ∷ tables) (s ∷ streams) windows all = ap suc (length-stand tables streams windows all.1)

-- the table at an index has changed, too
pub each-stepped : {P : Type 0} (R : StreamTable → StreamTable → P → Type 0) (old new : List StreamTable) (ps : List P) (i : ℕ) (d x : StreamTable) (e : P)
    → EachAt R old new (take i ps) → length ps ≤ length old → i < length ps → R (get_or new i d) x (get_or ps i e)
    → EachAt R old (slice_set new i x) (take (i + 1) ps)
each-stepped R old new ps i d x e each long below next =
    subst (λ (n : ℕ). EachAt R old (slice_set new i x) (take n ps)) (sym (add-one i))
    (each-next R old new ps i d x e each long below
    (subst (λ (t : StreamTable). R t x (get_or ps i e)) (each-rest R old new ps i d each long below) next))

-- the same where a thing is put last
pub each-pushed : {P : Type 0} (R : StreamTable → StreamTable → P → Type 0) (old new : List StreamTable) (ps more : List P) (i : ℕ) (d x : StreamTable) (p : P)
    → EachAt R old new ps → length ps ≡ i → i < length old → R (get_or new i d) x p → more ≡ ps ++ p ∷ [] → EachAt R old (slice_set new i x) more
each-pushed {P = P} R old new ps more i d x p each long below next last =
    let room : length ps < length old = omega (arith, long) in
    let own : R (get_or new (length ps) d) x p = subst (λ (n : ℕ). R (get_or new n d) x p) (sym long) next in
    let at : R (get_or old (length ps) d) x p = subst (λ (t : StreamTable). R t x p) (each-after R old new ps d each room) own in
    subst (λ (xs : List P). EachAt R old (slice_set new i x) xs) (sym last)
    (subst (λ (n : ℕ). EachAt R old (slice_set new n x) (ps ++ p ∷ [])) long (each-push R old new ps d x p each room at))

-- one table more stays in range, at the next index
pub in_range-stepped : (entry : Entry) (tables : List StreamTable) (i : ℕ) (d : StreamTable) → AreInRange entry (take i tables) → i < length tables
    → JudgesValue (TableStands (get_or tables i d)) entry.set entry.value true → AreInRange entry (take (i + 1) tables)
in_range-stepped entry tables i d fits below next =
    subst (λ (n : ℕ). AreInRange entry (take n tables)) (sym (add-one i)) (in_range-next entry tables i d fits below next)

-- the verdict on all tables, where some fault was met and taken back
pub judges-refused : (fault : SeriesFault) (tables : List StreamTable) (entry : Entry) (fit : Bool) → (fault ≡ SumRange → JudgesAll tables entry false) → JudgesAll tables entry fit
    → JudgesAll tables entry (is_in_range {X = Unit {0}} (Err (weightier fault fit)))
judges-refused SumRange tables entry true unfit judged = unfit refl
judges-refused SumRange tables entry false unfit judged = judged
judges-refused Memory tables entry true unfit judged = judged
judges-refused Memory tables entry false unfit judged = judged

-- a table with these parts is that table
pub same-table : (t before : StreamTable) → t.number ≡ before.number → t.reader ≡ before.reader → t.table ≡ before.table → t ≡ before
same-table t before n r s = λ i. record { number = n i; reader = r i; table = s i }

-- what puts a value into a table, puts a recording of the value in
pub puts-one : (entry : Entry) (old new : StreamTable) (place : Place) (v : ℤ) → v ≡ entry.value → IsSameStream old new
    → ((before : StreamSeriesValue) (set : List ℕ) → stream_series.is_ready before old.table set v place → TakesRecording (stream_series.stands before) (stream_series.stands new.table) set v)
    → Puts entry old new place
puts-one entry old new place v same stream puts before ready = (
  record {
    number = stream.number ∙ ready.same.number;
    reader = stream.reader ∙ ready.same.reader;
    places = record { sets = λ s h. stream.places.sets s (ready.same.places.sets s h); room = λ h. stream.places.room (ready.same.places.room h) };
  },
  subst (λ (w : ℤ). TakesRecording (stream_series.stands before.table) (stream_series.stands new.table) entry.set w) same
      (puts before.table entry.set (subst (λ (w : ℤ). stream_series.is_ready before.table old.table entry.set w place) (sym same) ready.ready)),
)
