-- What is done to all tables, by what is done to the first and to the rest.
use Rattle.std.proofs.Common.{◌≡◌, ℕ, zero, suc, ◌<◌, Bool, ◌&&◌, List, [], ◌∷◌, ◌++◌, length, get_or, sym, ap, subst, ◌∙◌, arith}
use Rattle.std.specs.List.{list_all}
use Rattle.metric_history.specs.declared.entry.Entry.{Entry}
use Rattle.metric_facts.specs.declared.facts.NumberedStream.{NumberedStream}
use Rattle.metric_history.specs.Windows.{fits_stream}
use Rattle.metric_series.specs.Calls.{JudgesValue, KeepsPlaces}
use Rattle.metric_marked.specs.StreamSeries.{stream_series}
use Rattle.metric_marked.specs.Marks.{JudgesAll, HaveRoom, KeepPlaces, StandAll, StandsFor, TableStands, TakeAll}
use Rattle.metric_marked.specs.declared.stream_table.StreamTable.{StreamTable}

pub stands-same : (tables : List StreamTable) (streams : List NumberedStream) (windows others : ℕ → List Entry) → ((reader : ℕ) → windows reader ≡ others reader)
    → StandAll tables streams windows → StandAll tables streams others
stands-same [] [] windows others same all = tt
stands-same [] (s ∷ streams) windows others same all = all
stands-same (t ∷ tables) [] windows others same all = all
stands-same (t ∷ tables) (s ∷ streams) windows others same all =
    (subst (StandsFor t s) (same s.stream.reader) all.0, stands-same tables streams windows others same all.1)

pub stands-push : (tables : List StreamTable) (streams : List NumberedStream) (windows : ℕ → List Entry) (t : StreamTable) (s : NumberedStream)
    → StandAll tables streams windows → StandsFor t s (windows s.stream.reader) → StandAll (tables ++ t ∷ []) (streams ++ s ∷ []) windows
stands-push [] [] windows t s all last = (last, tt)
stands-push [] (x ∷ streams) windows t s all last = absurd all
stands-push (y ∷ tables) [] windows t s all last = absurd all
stands-push (y ∷ tables) (x ∷ streams) windows t s all last = (all.0, stands-push tables streams windows t s all.1 last)

pub judges-cons : (t : StreamTable) (tables : List StreamTable) (entry : Entry) (a b : Bool) → JudgesValue (TableStands t) entry.set entry.value a
    → JudgesAll tables entry b → JudgesAll (t ∷ tables) entry (a && b)
judges-cons t tables entry a b own rest [] windows all = absurd all
judges-cons t tables entry a b own rest (s ∷ streams) windows all =
    ap (λ (v : Bool). v && list_all (λ (s : NumberedStream). fits_stream s.stream (windows s.stream.reader) entry) streams)
    (own s.stream (windows s.stream.reader) entry.recorder all.0.stands)
    ∙ ap (λ (v : Bool). a && v) (rest streams windows all.1)

-- one table more has a place for a set
pub takes-push : (tables : List StreamTable) (t : StreamTable) (set : List ℕ) → TakeAll tables set → stream_series.takes t.table set → TakeAll (tables ++ t ∷ []) set
takes-push [] t set all last = (last, tt)
takes-push (y ∷ tables) t set all last = (all.0, takes-push tables t set all.1 last)

-- one table more has room for all values
pub room-push : (tables : List StreamTable) (t : StreamTable) → HaveRoom tables → stream_series.has_room t.table → HaveRoom (tables ++ t ∷ [])
room-push [] t all last = (last, tt)
room-push (y ∷ tables) t all last = (all.0, room-push tables t all.1 last)

-- the table at an index has the place, and the room, that each table has
pub takes-at : (tables : List StreamTable) (i : ℕ) (d : StreamTable) (set : List ℕ) → TakeAll tables set → i < length tables → stream_series.takes (get_or tables i d).table set
takes-at [] i d set all below = absurd (omega arith)
takes-at (t ∷ tables) zero d set all below = all.0
takes-at (t ∷ tables) (suc i) d set all below = takes-at tables i d set all.1 (omega arith)

pub room-at : (tables : List StreamTable) (i : ℕ) (d : StreamTable) → HaveRoom tables → i < length tables → stream_series.has_room (get_or tables i d).table
room-at [] i d all below = absurd (omega arith)
room-at (t ∷ tables) zero d all below = all.0
room-at (t ∷ tables) (suc i) d all below = room-at tables i d all.1 (omega arith)

-- the same tables have the same places
pub keeps-same : (old new : List StreamTable) → new ≡ old → KeepPlaces old new
keeps-same old new same = record { sets = λ set h. subst (λ ts. TakeAll ts set) (sym same) h; room = λ h. subst HaveRoom (sym same) h }

pub keeps-cons : (o n : StreamTable) (old new : List StreamTable) → KeepsPlaces stream_series.takes stream_series.has_room o.table n.table → KeepPlaces old new
    → KeepPlaces (o ∷ old) (n ∷ new)
keeps-cons o n old new one rest = record { sets = λ set h. (one.sets set h.0, rest.sets set h.1); room = λ h. (one.room h.0, rest.room h.1) }
