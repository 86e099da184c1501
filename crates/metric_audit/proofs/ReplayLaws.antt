-- What a book takes of a journal, recording after recording, and what its batches are.
use Rattle.std.proofs.Common.{◌≡◌, ℕ, ◌+◌, ◌-◌, ◌≤◌, Bool, true, false, ◌&&◌, cond, List, [], ◌∷◌, ◌++◌, Ok, Err, length, take, drop, refl, sym, ap, subst, ◌∙◌, arith}
use Rattle.std.specs.Prelude.{◌==◌, ◌↔◌, IfOk, IsTrue, OnOk, Result, filter, nat_le, slice_index, slice_range, slice_set, if◌then◌else◌}
use Rattle.std.specs.List.{list_all}
use Rattle.std.proofs.Math.Seq.{take-add}
use Rattle.std.proofs.lemmas.Bool.{eqb-true, false≢true}
use Rattle.std.proofs.lemmas.Bool.Decides.{nat_tests}
use Rattle.std.proofs.lemmas.List.{get_or-set_same, length-set, length-take-le}
use Rattle.metric_audit.specs.Batches.{FollowsRightly, each_may_follow, is_headed, may_follow}
use Rattle.metric_audit.specs.Replays.{IsReplayed, JudgesBatch, ReportsPoints, TakesWhereIt, are_of_reader, may_take_each}
use Rattle.metric_history.specs.Journals.{MovesMark, Standing}
use Rattle.metric_facts.specs.declared.facts.FactsFields.{FactsFields as Facts}
use Rattle.metric_facts.specs.declared.facts.NumberedStream.{NumberedStream}
use Rattle.metric_facts.specs.Facts.{in_bounds, is_allowed_set, is_delta, is_of_reader}
use Rattle.metric_history.specs.declared.batch.Batch.{Batch}
use Rattle.metric_history.specs.declared.batch.StreamPoints.{StreamPoints}
use Rattle.metric_history.specs.declared.entry.Entry.{Entry}
use Rattle.metric_history.specs.Points.{reported}
use Rattle.metric_history.specs.Windows.{fits_stream, window}

pub both-left : (a b : Bool) → (a && b) ≡ true → a ≡ true
both-left true b e = refl
both-left false b e = absurd (false≢true e)

pub both-right : (a b : Bool) → (a && b) ≡ true → b ≡ true
both-right true b e = e
both-right false b e = absurd (false≢true e)

-- of recordings the first ones were taken, and the rest decides
abbrev pub HasTaken : Standing → Standing → Facts → List Entry → ℕ → Type 0
HasTaken old now facts entries i =
    (journal : List Entry) (marks : List ℕ) → old facts journal marks
    → (may_take_each facts marks journal entries ≡ may_take_each facts marks (journal ++ take i entries) (drop i entries)) × now facts (journal ++ take i entries) marks

-- Where all streams are one reader's, only its mark counts.
fits-streams : (facts : Facts) (marks : List ℕ) (reader mark : ℕ) (journal : List Entry) (entry : Entry) → slice_index marks reader ≡ mark
    → (streams : List NumberedStream) → list_all (is_of_reader reader) streams ≡ true
    → list_all (λ (s : NumberedStream). fits_stream s.stream (window (is_delta facts s.stream.reader) (slice_index marks s.stream.reader) journal) entry) streams
    ≡ list_all (λ (s : NumberedStream). fits_stream s.stream (window (is_delta facts reader) mark journal) entry) (filter (is_of_reader reader) streams)
fits-streams facts marks reader mark journal entry own [] all = refl
fits-streams facts marks reader mark journal entry own (s ∷ streams) all =
    at (is_of_reader reader s) refl all (λ (rest : list_all (is_of_reader reader) streams ≡ true). fits-streams facts marks reader mark journal entry own streams rest)
  where
    at : (b : Bool) → is_of_reader reader s ≡ b → (b && list_all (is_of_reader reader) streams) ≡ true
        → (list_all (is_of_reader reader) streams ≡ true
        → list_all (λ (s : NumberedStream). fits_stream s.stream (window (is_delta facts s.stream.reader) (slice_index marks s.stream.reader) journal) entry) streams
        ≡ list_all (λ (s : NumberedStream). fits_stream s.stream (window (is_delta facts reader) mark journal) entry) (filter (is_of_reader reader) streams))
        → (fits_stream s.stream (window (is_delta facts s.stream.reader) (slice_index marks s.stream.reader) journal) entry
        && list_all (λ (s : NumberedStream). fits_stream s.stream (window (is_delta facts s.stream.reader) (slice_index marks s.stream.reader) journal) entry) streams)
        ≡ list_all (λ (s : NumberedStream). fits_stream s.stream (window (is_delta facts reader) mark journal) entry) (cond b (s ∷ filter (is_of_reader reader) streams) (filter (is_of_reader reader) streams))
    at true e rest later =
        let same : s.stream.reader ≡ reader = eqb-true s.stream.reader reader e in
        let here : fits_stream s.stream (window (is_delta facts s.stream.reader) (slice_index marks s.stream.reader) journal) entry ≡ fits_stream s.stream (window (is_delta facts reader) mark journal) entry =
        ap (λ (r : ℕ). fits_stream s.stream (window (is_delta facts r) (slice_index marks r) journal) entry) same
        ∙ ap (λ (m : ℕ). fits_stream s.stream (window (is_delta facts reader) m journal) entry) own in
        ap (λ (b : Bool). b && list_all (λ (s : NumberedStream). fits_stream s.stream (window (is_delta facts s.stream.reader) (slice_index marks s.stream.reader) journal) entry) streams) here
        ∙ ap (λ (b : Bool). fits_stream s.stream (window (is_delta facts reader) mark journal) entry && b) (later rest)
    at false e rest later = absurd (false≢true rest)

pub takes-follows : (facts : Facts) (marks : List ℕ) (reader mark : ℕ) (entries journal : List Entry) → slice_index marks reader ≡ mark → are_of_reader facts reader ≡ true
    → may_take_each facts marks journal entries ≡ each_may_follow facts reader mark journal entries
takes-follows facts marks reader mark [] journal own all = refl
takes-follows facts marks reader mark (entry ∷ entries) journal own all =
    ap (λ (b : Bool). (is_allowed_set facts entry.set && (in_bounds facts entry.value && b)) && may_take_each facts marks (journal ++ entry ∷ []) entries)
    (fits-streams facts marks reader mark journal entry own facts.streams all)
    ∙ ap (λ (b : Bool). may_follow facts reader mark journal entry && b) (takes-follows facts marks reader mark entries (journal ++ entry ∷ []) own all)

-- what the head of a batch says of its mark
pub record HasHead (mark time count : ℕ) (b : Batch) : Type 0 where
  pub up : mark ≤ b.mark
  pub within : b.mark ≤ count

pub head-says : (facts : Facts) (instrument start count mark time : ℕ) (b : Batch) → is_headed facts instrument start count mark time b ≡ true → HasHead mark time count b
head-says facts instrument start count mark time b e =
    let after_instrument = both-right (b.instrument == instrument) _ e in
    let after_from = both-right (b.from == (if is_delta facts b.reader then mark else 0)) _ after_instrument in
    let after_start = both-right (b.start == (if is_delta facts b.reader then time else start)) _ after_from in
    let up : nat_le mark b.mark ≡ true = both-left (nat_le mark b.mark) _ after_start in
    let after_up = both-right (nat_le mark b.mark) _ after_start in
    let within : nat_le b.mark count ≡ true = both-left (nat_le b.mark count) _ after_up in
    record { up = grind (arith, nat_tests); within = grind (arith, nat_tests) }

-- the recordings up to the mark of a batch
cut-at : (entries : List Entry) (mark next : ℕ) → mark ≤ next → take mark entries ++ slice_range entries mark next ≡ take next entries
cut-at entries mark next up =
    let whole : mark + (next - mark) ≡ next = omega arith in
    sym (take-add mark (next - mark) entries) ∙ ap (λ (n : ℕ). take n entries) whole

-- a batch that adds a recording which may not follow
pub judged-impossible : (old mid : Standing) (facts : Facts) (instrument start : ℕ) (entries : List Entry) (mark time : ℕ) (b : Batch) → are_of_reader facts b.reader ≡ true
    → IsReplayed old facts b.reader entries mark → TakesWhereIt old mid facts (slice_range entries mark b.mark) false
    → JudgesBatch mid facts instrument start entries mark time b false
judged-impossible old mid facts instrument start entries mark time b own r taken = λ (follows : FollowsRightly facts instrument start entries mark time b).
    let verdict : false ≡ may_take_each facts r.marks (take mark entries) (slice_range entries mark b.mark) = (taken (take mark entries) r.marks r.known).0 in
    false≢true (verdict ∙ takes-follows facts r.marks b.reader mark (slice_range entries mark b.mark) (take mark entries) r.own own ∙ follows.possible)

-- the book after the recordings that a batch adds
pub after-range : (old mid : Standing) (facts : Facts) (reader : ℕ) (entries : List Entry) (mark next : ℕ) → mark ≤ next
    → (r : IsReplayed old facts reader entries mark) → TakesWhereIt old mid facts (slice_range entries mark next) true → mid facts (take next entries) r.marks
after-range old mid facts reader entries mark next up r taken =
    subst (λ (j : List Entry). mid facts j r.marks) (cut-at entries mark next up) ((taken (take mark entries) r.marks r.known).1 refl)

-- a batch whose points were compared
pub judged-told : (old mid new : Standing) (facts : Facts) (instrument start : ℕ) (entries : List Entry) (mark time : ℕ) (b : Batch) (same : Bool) → are_of_reader facts b.reader ≡ true
    → is_headed facts instrument start (length entries) mark time b ≡ true
    → IsReplayed old facts b.reader entries mark → TakesWhereIt old mid facts (slice_range entries mark b.mark) true
    → ReportsPoints mid b.reader b.streams same → MovesMark mid new b.reader → JudgesBatch new facts instrument start entries mark time b same
judged-told old mid new facts instrument start entries mark time b same own headed r taken reports moves = at same told
  where
    head : HasHead mark time (length entries) b
    head = head-says facts instrument start (length entries) mark time b headed

    known : mid facts (take b.mark entries) r.marks
    known = after-range old mid facts b.reader entries mark b.mark head.up r taken

    cut : length (take b.mark entries) ≡ b.mark
    cut = length-take-le b.mark entries head.within

    told : IsTrue same ↔ (b.streams ≡ reported facts b.reader (window (is_delta facts b.reader) mark (take b.mark entries)))
    told = subst (λ (m : ℕ). IsTrue same ↔ (b.streams ≡ reported facts b.reader (window (is_delta facts b.reader) m (take b.mark entries)))) r.own (reports facts (take b.mark entries) r.marks known)

    possible : each_may_follow facts b.reader mark (take mark entries) (slice_range entries mark b.mark) ≡ true
    possible = sym (takes-follows facts r.marks b.reader mark (slice_range entries mark b.mark) (take mark entries) r.own own) ∙ sym ((taken (take mark entries) r.marks r.known).0)

    replayed : IsReplayed new facts b.reader entries b.mark
    replayed = record {
      marks = slice_set r.marks b.reader b.mark;
      long = omega (arith, length-set r.marks b.reader b.mark, r.long);
      own = get_or-set_same r.marks b.reader b.mark 0 r.long;
      low = head.within;
      known = subst (λ (n : ℕ). new facts (take b.mark entries) (slice_set r.marks b.reader n)) cut (moves facts (take b.mark entries) r.marks known);
    }

    at : (v : Bool) → IsTrue v ↔ (b.streams ≡ reported facts b.reader (window (is_delta facts b.reader) mark (take b.mark entries))) → JudgesBatch new facts instrument start entries mark time b v
    at true t = (record { headed = headed; possible = possible; points = t.0 refl }, replayed)
    at false t = λ (follows : FollowsRightly facts instrument start entries mark time b). false≢true (t.1 follows.points)

-- the same where the answer may fail
pub told-result : {F : Type 0} (old mid new : Standing) (facts : Facts) (instrument start : ℕ) (entries : List Entry) (mark time : ℕ) (b : Batch) (streams : List StreamPoints) (result : Result Bool F)
    → streams ≡ b.streams → are_of_reader facts b.reader ≡ true → true ≡ is_headed facts instrument start (length entries) mark time b
    → IsReplayed old facts b.reader entries mark → TakesWhereIt old mid facts (slice_range entries mark b.mark) true
    → IfOk result (λ same. ReportsPoints mid b.reader streams same) → OnOk result (MovesMark mid new b.reader)
    → IfOk result (λ right. JudgesBatch new facts instrument start entries mark time b right)
told-result old mid new facts instrument start entries mark time b streams (Ok same) is own headed r taken reports moves =
    judged-told old mid new facts instrument start entries mark time b same own (sym headed) r taken (subst (λ (ss : List StreamPoints). ReportsPoints mid b.reader ss same) is reports) moves
told-result old mid new facts instrument start entries mark time b streams (Err e) is own headed r taken reports moves = tt
