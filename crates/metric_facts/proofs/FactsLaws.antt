-- How the facts of instruments grow, one instrument and one stream after the other.
use Rattle.std.proofs.Common.{◌≡◌, ◌≢◌, ℕ, zero, suc, ◌+◌, ◌<◌, ◌≤◌, Bool, cond, List, [], ◌∷◌, ◌++◌, length, take, drop, get_or, refl, sym, ap, ◌∙◌, append_assoc, arith}
use Rattle.std.specs.Prelude.{slice_set}
use Rattle.std.proofs.lemmas.Bool.{eq-eqb, ne_eqb}
use Rattle.std.proofs.lemmas.List.{append-nil, at_drop_more}
use Rattle.metric_contents.specs.declared.contents.Instrument.{Instrument}
use Rattle.metric_contents.specs.declared.contents.Recorder.{Recorder}
use Rattle.metric_views.specs.declared.config.Reader.{Reader}
use Rattle.metric_views.specs.declared.stream.Stream.{Stream}
use Rattle.metric_facts.specs.declared.facts.FactsFields.{FactsFields as Facts}
use Rattle.metric_facts.specs.declared.facts.NumberedStream.{NumberedStream}
use Rattle.metric_facts.specs.Facts.{is_by_product, numbered, numbered_from, facts_of, facts_from, with_stream}

one_more : (n : ℕ) → suc n + 1 ≡ suc (n + 1)
one_more n = omega arith

-- one stream more
numbered_more : (flags : List Bool) (instrument first : ℕ) (streams : List Stream) (i : ℕ) (d : Stream) → i < length streams
    → numbered_from flags instrument first (take (i + 1) streams)
    ≡ numbered_from flags instrument first (take i streams) ++ numbered instrument (first + i) (is_by_product flags (first + i)) (get_or streams i d)
numbered_more flags instrument first [] i d below = absurd (omega arith)
numbered_more flags instrument first (s ∷ streams) zero d below =
    append-nil (numbered instrument first (is_by_product flags first) s) ∙ ap (λ (n : ℕ). numbered instrument n (is_by_product flags n) s) (omega arith)
numbered_more flags instrument first (s ∷ streams) (suc i) d below =
    let here = numbered instrument first (is_by_product flags first) s in
    ap (λ (n : ℕ). numbered_from flags instrument first (take n (s ∷ streams))) (one_more i)
    ∙ ap (λ (rest : List NumberedStream). here ++ rest)
    (numbered_more flags instrument (first + 1) streams i d (omega arith)
    ∙ ap (λ (n : ℕ). numbered_from flags instrument (first + 1) (take i streams) ++ numbered instrument n (is_by_product flags n) (get_or streams i d)) (omega arith))
    ∙ sym (append_assoc here (numbered_from flags instrument (first + 1) (take i streams)) (numbered instrument (first + suc i) (is_by_product flags (first + suc i)) (get_or streams i d)))

pub facts_more : (plan : ℕ) (certified : Bool) (flags : List Bool) (recorders : List Recorder) (readers : List Reader) (streams : List Stream) (i : ℕ) (d : Stream) (first : ℕ) (instruments : List Instrument)
    → i < length streams
    → facts_from plan certified flags recorders readers (take (i + 1) streams) first instruments
    ≡ with_stream first i (is_by_product flags i) (get_or streams i d) (facts_from plan certified flags recorders readers (take i streams) first instruments)
facts_more plan certified flags recorders readers streams i d first [] below = refl
facts_more plan certified flags recorders readers streams i d first (instrument ∷ instruments) below =
    let before = numbered_from flags first 0 (take i streams) in
    let grown : List NumberedStream → Facts = λ own. record (facts_of plan certified flags recorders readers [] first instrument) { streams = own } in
    ap (λ (own : List NumberedStream). grown own ∷ facts_from plan certified flags recorders readers (take (i + 1) streams) (first + 1) instruments)
    (numbered_more flags first 0 streams i d below ∙ ap (λ (n : ℕ). before ++ numbered first n (is_by_product flags n) (get_or streams i d)) (omega arith))
    ∙ ap (λ (rest : List Facts). grown (before ++ numbered first i (is_by_product flags i) (get_or streams i d)) ∷ rest)
    (facts_more plan certified flags recorders readers streams i d (first + 1) instruments below)

-- a stream of another instrument changes nothing
other : (own : Facts) (first number : ℕ) (by_product : Bool) (s : Stream) → s.instrument ≢ first
    → record own { streams = own.streams ++ numbered first number by_product s } ≡ own
other own first number by_product s unlike =
    ap (λ (b : Bool). record own { streams = own.streams ++ cond b (record { number = number; by_product = by_product; stream = s } ∷ []) [] }) (ne_eqb s.instrument first unlike)
    ∙ ap (λ (all : List NumberedStream). record own { streams = all }) (append-nil own.streams)

with_stream-past : (first number : ℕ) (by_product : Bool) (s : Stream) (all : List Facts) → s.instrument < first → with_stream first number by_product s all ≡ all
with_stream-past first number by_product s [] past = refl
with_stream-past first number by_product s (own ∷ all) past =
    ap (λ (f : Facts). f ∷ with_stream (first + 1) number by_product s all) (other own first number by_product s (λ e. omega (arith, e)))
    ∙ ap (λ (rest : List Facts). own ∷ rest) (with_stream-past (first + 1) number by_product s all (omega arith))

-- a stream of the instrument at a place
pub with_stream-at : (first number : ℕ) (by_product : Bool) (s : Stream) (all : List Facts) (j : ℕ) (own d : Facts) → s.instrument ≡ first + j → j < length all → own ≡ get_or all j own
    → slice_set all j (record own { streams = own.streams ++ record { number = number; by_product = by_product; stream = s } ∷ [] }) ≡ with_stream first number by_product s all
with_stream-at first number by_product s [] j own d at below is = absurd (omega arith)
with_stream-at first number by_product s (f ∷ all) zero own d at below is =
    let one : List NumberedStream = record { number = number; by_product = by_product; stream = s } ∷ [] in
    ap (λ (g : Facts). record g { streams = g.streams ++ one } ∷ all) is
    ∙ ap (λ (rest : List Facts). record f { streams = f.streams ++ one } ∷ rest) (sym (with_stream-past (first + 1) number by_product s all (omega arith)))
    ∙ ap (λ (b : Bool). record f { streams = f.streams ++ cond b one [] } ∷ with_stream (first + 1) number by_product s all) (sym (eq-eqb s.instrument first (omega arith)))
with_stream-at first number by_product s (f ∷ all) (suc j) own d at below is =
    ap (λ (rest : List Facts). f ∷ rest) (with_stream-at (first + 1) number by_product s all j own d (omega arith) (omega arith) is)
    ∙ ap (λ (g : Facts). g ∷ with_stream (first + 1) number by_product s all) (sym (other f first number by_product s (λ e. omega (arith, e))))

-- a stream of no instrument
pub with_stream-none : (first number : ℕ) (by_product : Bool) (s : Stream) (all : List Facts) → first + length all ≤ s.instrument
    → all ≡ with_stream first number by_product s all
with_stream-none first number by_product s [] past = refl
with_stream-none first number by_product s (f ∷ all) past =
    ap (λ (rest : List Facts). f ∷ rest) (with_stream-none (first + 1) number by_product s all (omega arith))
    ∙ ap (λ (g : Facts). g ∷ with_stream (first + 1) number by_product s all) (sym (other f first number by_product s (λ e. omega (arith, e))))

-- the facts of one instrument more
pub instruments_more : (plan : ℕ) (certified : Bool) (flags : List Bool) (recorders : List Recorder) (readers : List Reader) (streams : List Stream) (number : ℕ) (instruments : List Instrument) (done all : List Facts) (instrument : Instrument) (facts : Facts)
    → number < length instruments → instrument ≡ get_or instruments number instrument → facts ≡ facts_of plan certified flags recorders readers streams number instrument
    → done ++ facts_from plan certified flags recorders readers streams number (drop number instruments) ≡ all
    → (done ++ facts ∷ []) ++ facts_from plan certified flags recorders readers streams (number + 1) (drop (number + 1) instruments) ≡ all
instruments_more plan certified flags recorders readers streams number instruments done all instrument facts below is_at is_facts before =
    append_assoc done (facts ∷ []) (facts_from plan certified flags recorders readers streams (number + 1) (drop (number + 1) instruments))
    ∙ ap (λ (f : Facts). done ++ f ∷ facts_from plan certified flags recorders readers streams (number + 1) (drop (number + 1) instruments))
    (is_facts ∙ ap (facts_of plan certified flags recorders readers streams number) is_at)
    ∙ ap (λ (rest : List Facts). done ++ rest) (sym (at_drop_more (facts_from plan certified flags recorders readers streams number) instruments number instrument below))
    ∙ before
