-- What the batches of a legal history of a safe run report.
use Rattle.std.proofs.Common.{◌≡◌, ◌≢◌, ℕ, ◌<◌, List, [], ◌∷◌, length, get_or, All, AllPairs, Some, None, Result, Ok, Err, ◌⊎◌, inl, inr, refl, sym, ap, subst, ◌∙◌, arith}
use Rattle.std.specs.Prelude.{slice_get, nat_lt, IsSome, option_and_then}
use Rattle.std.proofs.lemmas.Bool.{cases_order}
use Rattle.std.proofs.lemmas.List.Elements.{All-nil, All-append, All-weaker, All-contains}
use Rattle.std.proofs.lemmas.Option.{slice_get_within, get_or_from_slice_get}
use Rattle.metric_base.specs.StepLaws.{after_ok, require_ok, ok_is}
use Rattle.metric_base.specs.Steps.{require_some}
use Rattle.metric_contents.specs.declared.contents.Contents.{Contents}
use Rattle.metric_contents.specs.declared.refusal.Refusal.{Refusal}
use Rattle.metric_contents.specs.declared.refusal.Refusal.TheVariants.{UnknownInstrument, UnknownReader}
use Rattle.metric_views.specs.declared.stream.Stream.{Stream}
use Rattle.metric_resolve.specs.Collisions.{identity_of}
use Rattle.metric_resolve.specs.Laws.{identity_at}
use Rattle.metric_history.specs.declared.batch.Batch.{Batch}
use Rattle.metric_history.specs.declared.batch.Point.{Point}
use Rattle.metric_history.specs.declared.batch.StreamPoints.{StreamPoints}
use Rattle.metric_history.specs.declared.event.Event.{Event}
use Rattle.metric_history.specs.declared.event.Event.TheVariants.{Record, Collect, Close, Grant}
use Rattle.metric_history.specs.declared.event.Reply.{Reply}
use Rattle.metric_history.specs.declared.event.Reply.TheVariants.{Accepted, Collected, Done, Granted, Refused}
use Rattle.metric_facts.specs.declared.facts.Facts.{Facts}
use Rattle.metric_facts.specs.declared.facts.NumberedStream.{NumberedStream}
use Rattle.metric_history.specs.declared.entry.Entry.{Entry}
use Rattle.metric_history.specs.Answers.{batch, collected, covered}
use Rattle.metric_facts.specs.Facts.{EncodesAllowedSets, RunFacts, is_delta}
use Rattle.metric_history.specs.History.{History, accepted, mark_of, told_of}
use Rattle.metric_history.specs.Legal.{IsLegal, Legal, LegalRecord, LegalCollect, LegalClose, LegalGrant, recording, collection, close, grant}
use Rattle.metric_history.specs.Points.{stream_points, points}
use Rattle.metric_history.specs.Series.{rows}
use Rattle.metric_safety.specs.SafeFacts.{IsSafeStream}
use Rattle.metric_safety.specs.WindowBounds.{IsBounded, IsValueInRange}
use Rattle.metric_safety.specs.SafeRuns.{IsSafeRun, reported_in, exported, AreIdentified, AreWindowsBounded, NothingOverflows, NumbersFit, AreInRange}
use Rattle.metric_safety.proofs.WindowLaws.{admitted_window, all_reported, journal_bounded, length-window}
use Rattle.metric_safety.proofs.RangeLaws.{window_in_range}
use Rattle.metric_safety.proofs.HistoryLaws.{accepted_within, known_own}

-- ---- the batches of a history

-- a batch is the answer after some history
record IsAnswered (facts : RunFacts) (start : ℕ) (h : History) (b : Batch) : Type 0 where
  number : ℕ
  reader : ℕ
  now : ℕ
  own : Facts
  known : slice_get facts.instruments number ≡ Some own
  is : b ≡ batch own start (told_of facts start h number) reader now

collection_shows : (facts : RunFacts) (start : ℕ) (h : History) (reader number now : ℕ) (b : Batch) → collection facts start h reader number now ≡ Ok b → IsAnswered facts start h b
collection_shows facts start h reader number now b made =
    after_ok (require_some (slice_get facts.instruments number) UnknownInstrument) (λ own. collected own start (told_of facts start h number) reader now) b made
    (λ own found rest.
    let known = require_ok (nat_lt reader (length own.delta)) UnknownReader _ b rest in
    record {
      number = number;
      reader = reader;
      now = now;
      own = own;
      known = known_own (slice_get facts.instruments number) own found;
      is = ok_is b (batch own start (told_of facts start h number) reader now) (Ok b) refl (sym known.1);
    })

legal_batch : (facts : RunFacts) (start : ℕ) (h : History) (event : Event) (b : Batch) → Legal facts start h event (Collected b) → IsAnswered facts start h b
legal_batch facts start h (Record recorder number attrs value) b legal = absurd (by (recording facts start h recorder number attrs value) legal)
  where
    by : (r : Result Entry Refusal) → LegalRecord r (Collected b) → ⊥
    by (Ok entry) legal = legal
    by (Err refusal) legal = legal
legal_batch facts start h (Close number) b legal = absurd (by (close facts start h number) legal)
  where
    by : (r : Result (Unit {0}) Refusal) → LegalClose r (Collected b) → ⊥
    by (Ok done) legal = legal
    by (Err refusal) legal = legal
legal_batch facts start h (Grant to number amount) b legal = absurd (by (grant facts start h to number amount) legal)
  where
    by : (r : Result (Unit {0}) Refusal) → LegalGrant r (Collected b) → ⊥
    by (Ok done) legal = legal
    by (Err refusal) legal = legal
legal_batch facts start h (Collect reader number now) b legal = by (collection facts start h reader number now) refl legal
  where
    by : (r : Result Batch Refusal) → collection facts start h reader number now ≡ r → LegalCollect r (Collected b) → IsAnswered facts start h b
    by (Ok made) e legal = collection_shows facts start h reader number now b (e ∙ ap Ok (sym legal))
    by (Err refusal) e legal = absurd legal

-- what holds of all that could be answered holds of all that was
all_exported : (P : StreamPoints → Type 0) (facts : RunFacts) (start : ℕ)
    → ((h : History) → IsLegal facts start h → (number reader now : ℕ) (own : Facts) → slice_get facts.instruments number ≡ Some own → All P (batch own start (told_of facts start h number) reader now).streams)
    → (h : History) → IsLegal facts start h → All P (exported h)
all_exported P facts start answers [] legal = All-nil P
all_exported P facts start answers (a ∷ older) legal =
    All-append P (reported_in a.reply) (exported older) (by a.event a.reply legal.1) (all_exported P facts start answers older legal.0)
  where
    by : (event : Event) (reply : Reply) → Legal facts start older event reply → All P (reported_in reply)
    by event (Collected b) given =
        let shown = legal_batch facts start older event b given in
        subst (λ (x : Batch). All P x.streams) (sym shown.is) (answers older legal.0 shown.number shown.reader shown.now shown.own shown.known)
    by event Accepted given = All-nil P
    by event Done given = All-nil P
    by event Granted given = All-nil P
    by event (Refused refusal) given = All-nil P

-- ---- windows

-- every window of a legal history is bounded
bounded : EncodesAllowedSets → (streams : List Stream) (facts : RunFacts) (start : ℕ) (h : History) → IsSafeRun streams facts → IsLegal facts start h
    → (number reader : ℕ) (own : Facts) → slice_get facts.instruments number ≡ Some own
    → All (λ (s : NumberedStream). IsBounded own s.stream (covered own (told_of facts start h number) reader)) own.streams
bounded names streams facts start h run legal number reader own at =
    journal_bounded own (accepted facts h number) (is_delta own reader) (mark_of facts h number reader) (run.safe number own at) (accepted_within names streams facts start h run legal number own at).admitted

pub windows_bounded : EncodesAllowedSets → (streams : List Stream) (facts : RunFacts) (start : ℕ) (h : History) → IsSafeRun streams facts → IsLegal facts start h → AreWindowsBounded facts start h
windows_bounded names streams facts start h run legal number own at =
    λ k d inside. bounded names streams facts start h run legal number (get_or own.streams k d).stream.reader own at k d inside

pub nothing_overflows : EncodesAllowedSets → (streams : List Stream) (facts : RunFacts) (start : ℕ) (h : History) → IsSafeRun streams facts → IsLegal facts start h → NothingOverflows facts start h
nothing_overflows names streams facts start h run legal = record {
  no_rest = λ number own at.
      All-weaker (λ (s : NumberedStream). IsBounded own s.stream (covered own (told_of facts start h number) s.stream.reader))
      (λ (s : NumberedStream). rows s.stream (covered own (told_of facts start h number) s.stream.reader) None ≡ []) (λ s b. b.no_rest)
      own.streams (windows_bounded names streams facts start h run legal number own at);
  no_overflow = all_exported (λ (s : StreamPoints). All (λ (p : Point). IsSome p.set) s.points) facts start
      (λ older past number reader now own at.
      all_reported (λ (s : StreamPoints). All (λ (p : Point). IsSome p.set) s.points) own reader (covered own (told_of facts start older number) reader)
      (All-weaker (λ (s : NumberedStream). IsBounded own s.stream (covered own (told_of facts start older number) reader))
      (λ (s : NumberedStream). All (λ (p : Point). IsSome p.set) (points s.stream (covered own (told_of facts start older number) reader))) (λ s b. b.no_overflow)
      own.streams (bounded names streams facts start older run past number reader own at)))
      h legal;
}

-- ---- numbers

answers_in_range : EncodesAllowedSets → (streams : List Stream) (facts : RunFacts) (start : ℕ) → IsSafeRun streams facts → (h : History) → IsLegal facts start h
    → (number reader now : ℕ) (own : Facts) → slice_get facts.instruments number ≡ Some own → AreInRange (batch own start (told_of facts start h number) reader now).streams
answers_in_range names streams facts start run h legal number reader now own at =
    let safe = run.safe number own at in
    let range = run.ranges number own at in
    let journal = (accepted_within names streams facts start h run legal number own at).admitted in
    let few = length-window (is_delta own reader) (mark_of facts h number reader) (accepted facts h number) in
    all_reported (λ (s : StreamPoints). All (λ (p : Point). IsValueInRange p.value) s.points) own reader (covered own (told_of facts start h number) reader)
    (All-weaker (λ (s : NumberedStream). IsSafeStream own s.stream)
    (λ (s : NumberedStream). All (λ (p : Point). IsValueInRange p.value) (points s.stream (covered own (told_of facts start h number) reader)))
    (λ s fit. window_in_range own s.stream (covered own (told_of facts start h number) reader) fit safe.counts range.0 range.1
    (admitted_window own (is_delta own reader) (mark_of facts h number reader) (accepted facts h number) journal.admitted) (omega (arith, few, journal.budgeted)))
    own.streams safe.streams)

pub numbers_fit : EncodesAllowedSets → (streams : List Stream) (facts : RunFacts) (start : ℕ) (h : History) → IsSafeRun streams facts → IsLegal facts start h → NumbersFit facts start h
numbers_fit names streams facts start h run legal = record {
  answers = answers_in_range names streams facts start run h legal;
  batches = all_exported (λ (s : StreamPoints). All (λ (p : Point). IsValueInRange p.value) s.points) facts start (answers_in_range names streams facts start run) h legal;
}

-- ---- identities

-- the points are of a stream of the run
record IsOfStream (streams : List Stream) (s : StreamPoints) : Type 0 where
  stream : Stream
  at : slice_get streams s.stream ≡ Some stream

all_known : (streams : List Stream) (facts : RunFacts) (start : ℕ) (h : History) → IsSafeRun streams facts → IsLegal facts start h → All (IsOfStream streams) (exported h)
all_known streams facts start h run legal =
    all_exported (IsOfStream streams) facts start
    (λ older past number reader now own at.
    all_reported (IsOfStream streams) own reader (covered own (told_of facts start older number) reader)
    (All-weaker (λ (n : NumberedStream). slice_get streams n.number ≡ Some n.stream) (λ (n : NumberedStream). IsOfStream streams (stream_points (covered own (told_of facts start older number) reader) n))
    (λ n place. record { stream = n.stream; at = place }) own.streams (run.numbers number own at)))
    h legal

identities_differ : (contents : Contents) (streams : List Stream) (a b : ℕ) (s t : Stream) → AllPairs (λ stream other. identity_of contents stream ≢ identity_of contents other) streams
    → slice_get streams a ≡ Some s → slice_get streams b ≡ Some t → a < b → identity_at contents streams a ≢ identity_at contents streams b
identities_differ contents streams a b s t distinct at there before same =
    distinct a b s before (slice_get_within streams b t there)
    (ap (identity_of contents) (get_or_from_slice_get streams a s s at)
    ∙ sym (ap (option_and_then (identity_of contents)) at)
    ∙ same
    ∙ ap (option_and_then (identity_of contents)) there
    ∙ ap (identity_of contents) (sym (get_or_from_slice_get streams b t s there)))

pub are_identified : (streams : List Stream) (facts : RunFacts) (start : ℕ) (h : History) → IsSafeRun streams facts → IsLegal facts start h → AreIdentified facts.contents streams h
are_identified streams facts start h run legal = record {
  known = All-weaker (IsOfStream streams) (λ (s : StreamPoints). s.stream < length streams) (λ s of. slice_get_within streams s.stream of.stream of.at) (exported h) all;
  distinct = λ s other here there unlike.
      let one = All-contains (IsOfStream streams) (exported h) s all here in
      let two = All-contains (IsOfStream streams) (exported h) other all there in
      by s.stream other.stream one.stream two.stream one.at two.at unlike (cases_order s.stream other.stream);
}
  where
    all : All (IsOfStream streams) (exported h)
    all = all_known streams facts start h run legal

    by : (a b : ℕ) (s t : Stream) → slice_get streams a ≡ Some s → slice_get streams b ≡ Some t → a ≢ b → (a ≡ b) ⊎ ((a < b) ⊎ (b < a)) → identity_at facts.contents streams a ≢ identity_at facts.contents streams b
    by a b s t at there unlike (inl same) = absurd (unlike same)
    by a b s t at there unlike (inr (inl before)) = identities_differ facts.contents streams a b s t run.distinct at there before
    by a b s t at there unlike (inr (inr after)) = λ same. identities_differ facts.contents streams b a t s run.distinct there at after (sym same)
