-- One collection after the other.
use Rattle.std.proofs.Common.{◌≡◌, ◌<◌, ℕ, zero, suc, ◌+◌, ◌-◌, Bool, true, false, ◌&&◌, List, [], ◌∷◌, ◌++◌, Option, Some, None, Result, Ok, Err, length, map, drop, refl, sym, ap, subst, ◌∙◌, length-append, length-drop, arith}
use Rattle.std.specs.Prelude.{slice_get, slice_index_or, slice_set, ◌==◌, nat_lt}
use Rattle.std.proofs.lemmas.Bool.{and_parts, eqb-true}
use Rattle.std.proofs.lemmas.List.{length-map}
use Rattle.std.proofs.lemmas.Option.{same_Some}
use Rattle.metric_base.specs.Steps.{◌>>=◌, require, require_some}
use Rattle.metric_contents.specs.declared.refusal.Refusal.TheVariants.{Stranger, UnknownInstrument}
use Rattle.metric_contents.specs.declared.refusal.Refusal.{Refusal}
use Rattle.metric_history.specs.declared.batch.Batch.{Batch}
use Rattle.metric_facts.specs.declared.facts.Facts.{Facts}
use Rattle.metric_seat.specs.Collections.{AnswersCollector, AnswersEach, IsNextBatch, IsRefusedAt, collectable, with_all_seen, with_seen}
use Rattle.metric_seat.specs.declared.run_id.RunId.{RunId}
use Rattle.metric_seat.specs.Seats.{CollectorValue, ProviderValue, is_collector_of, seen_at, is_same_run}
use Rattle.metric_slot.specs.declared.seen.Seen.{Seen}
use Rattle.metric_slot.specs.Sightings.{nothing_seen, seen_of}

-- what an answered collection tells of its seat and its instrument
pub record IsCollected (p : ProviderValue) (seat : CollectorValue) (instrument now : ℕ) (batch : Batch) : Type 0 where
  pub own : Facts
  pub found : slice_get p.plan.facts.instruments instrument ≡ Some own
  pub long : length seat.seen ≡ length p.plan.facts.instruments
  pub next : IsNextBatch own seat.run.start seat.number (seen_at seat instrument) now batch

seat_long : (p : ProviderValue) (seat : CollectorValue) → is_collector_of p seat ≡ true → length seat.seen ≡ length p.plan.facts.instruments
seat_long p seat of =
    let long = length seat.seen == length p.plan.facts.instruments in
    let known = nat_lt seat.number (length p.plan.config.readers) in
    let parts = and_parts (is_same_run seat.run p.run) (known && long) of in
    eqb-true (length seat.seen) (length p.plan.facts.instruments) (and_parts known long parts.1).1

pub collected : (p : ProviderValue) (seat : CollectorValue) (instrument now : ℕ) (batch : Batch) → AnswersCollector (collectable p seat instrument) seat instrument now (Ok batch) → IsCollected p seat instrument now batch
collected p seat instrument now batch answer = of (is_collector_of p seat) refl answer
  where
    found : (o : Option Facts) → slice_get p.plan.facts.instruments instrument ≡ o → is_collector_of p seat ≡ true
        → AnswersCollector (require_some o UnknownInstrument) seat instrument now (Ok batch) → IsCollected p seat instrument now batch
    found None at own answer = absurd answer
    found (Some facts) at own answer = record { own = facts; found = at; long = seat_long p seat own; next = answer }

    of : (b : Bool) → is_collector_of p seat ≡ b
        → AnswersCollector (require b Stranger >>= λ _. require_some (slice_get p.plan.facts.instruments instrument) UnknownInstrument) seat instrument now (Ok batch) → IsCollected p seat instrument now batch
    of true own answer = found (slice_get p.plan.facts.instruments instrument) refl own answer
    of false own answer = absurd answer

past : {X Y : Type 0} (f : X → Y) (xs : List X) (y : Y) → slice_index_or (map f xs ++ []) (length xs) y ≡ y
past f [] y = refl
past f (x ∷ xs) y = past f xs y

next_seen : (done : List Batch) (seen : List Seen) (before : Seen)
    → slice_index_or (map seen_of done ++ drop (length done) seen) (length done) before ≡ slice_index_or seen (length done) before
next_seen [] seen before = refl
next_seen (d ∷ done) [] before = past seen_of done before
next_seen (d ∷ done) (x ∷ seen) before = next_seen done seen before

seen_more : (done : List Batch) (seen : List Seen) (batch : Batch) → length done < length seen
    → slice_set (map seen_of done ++ drop (length done) seen) (length done) (seen_of batch)
    ≡ map seen_of (done ++ batch ∷ []) ++ drop (length (done ++ batch ∷ [])) seen
seen_more [] [] batch below = absurd (omega arith)
seen_more [] (x ∷ seen) batch below = refl
seen_more (d ∷ done) [] batch below = absurd (omega arith)
seen_more (d ∷ done) (x ∷ seen) batch below = ap (λ (rest : List Seen). seen_of d ∷ rest) (seen_more done seen batch (omega arith))

-- the seat that has seen one batch more
pub all_seen_more : (seat : CollectorValue) (done : List Batch) (batch : Batch) → length done < length seat.seen
    → with_seen (with_all_seen seat done) (length done) batch ≡ with_all_seen seat (done ++ batch ∷ [])
all_seen_more seat done batch below = ap (λ (seen : List Seen). record seat { seen = seen }) (seen_more done seat.seen batch below)

-- what holds of each element, and of one more at its place
pub at_each_push : {X : Type 0} (P : ℕ → X → Type 0) (xs : List X) (x : X) → ((i : ℕ) (y : X) → slice_get xs i ≡ Some y → P i y) → P (length xs) x
    → (i : ℕ) (y : X) → slice_get (xs ++ x ∷ []) i ≡ Some y → P i y
at_each_push P [] x each last zero y found = subst (P 0) (same_Some x y found) last
at_each_push P [] x each last (suc i) y found = absurd cc
at_each_push P (w ∷ xs) x each last zero y found = each 0 y found
at_each_push P (w ∷ xs) x each last (suc i) y found = at_each_push (λ n. P (suc n)) xs x (λ j z f. each (suc j) z f) last i y found

-- ---- a seat that has seen batches of the first instruments is answered as the first one

first_length : (p : ProviderValue) (seat : CollectorValue) (now : ℕ) (done : List Batch) → length done < length p.plan.facts.instruments → AnswersEach p seat now done
    → length (with_all_seen seat done).seen ≡ length seat.seen
first_length p seat now [] below each = refl
first_length p seat now (d ∷ done) below each =
    let from = collected p seat 0 now d (each 0 d refl) in
    let parts : length (with_all_seen seat (d ∷ done)).seen ≡ length (d ∷ done) + (length seat.seen - length (d ∷ done)) =
    length-append (map seen_of (d ∷ done)) (drop (length (d ∷ done)) seat.seen)
    ∙ ap (λ (n : ℕ). n + length (drop (length (d ∷ done)) seat.seen)) (length-map (d ∷ done) seen_of)
    ∙ ap (λ (n : ℕ). length (d ∷ done) + n) (length-drop (length (d ∷ done)) seat.seen) in
    omega (arith, parts, from.long, below)

moved : (allowed : Result Facts Refusal) (number : ℕ) (all none : List Seen) (run : RunId) (i now : ℕ) (result : Result Batch Refusal)
    → slice_index_or all i (nothing_seen run.start) ≡ slice_index_or none i (nothing_seen run.start)
    → AnswersCollector allowed (record { run = run; number = number; seen = all }) i now result
    → AnswersCollector allowed (record { run = run; number = number; seen = none }) i now result
moved (Err first) number all none run i now (Err refusal) same answer = answer
moved (Err first) number all none run i now (Ok batch) same answer = absurd answer
moved (Ok own) number all none run i now (Ok batch) same answer = subst (λ (seen : Seen). IsNextBatch own run.start number seen now batch) same answer
moved (Ok own) number all none run i now (Err refusal) same answer = answer

own_as_first : (p : ProviderValue) (seat : CollectorValue) (now : ℕ) (done : List Batch) → length done < length p.plan.facts.instruments
    → AnswersEach p seat now done → is_collector_of p (with_all_seen seat done) ≡ is_collector_of p seat
own_as_first p seat now done below each =
    ap (λ (n : ℕ). is_same_run seat.run p.run && (nat_lt seat.number (length p.plan.config.readers) && (n == length p.plan.facts.instruments)))
    (first_length p seat now done below each)

pub as_first : (p : ProviderValue) (first seat : CollectorValue) (now : ℕ) (done : List Batch) (i : ℕ) (result : Result Batch Refusal) → length done ≡ i
    → seat ≡ with_all_seen first done → i < length p.plan.facts.instruments → AnswersEach p first now done
    → AnswersCollector (collectable p seat i) seat i now result → AnswersCollector (collectable p first i) first i now result
as_first p first seat now done i result count seen known each answer =
    let below : length done < length p.plan.facts.instruments = omega (arith, count, known) in
    let later : CollectorValue = with_all_seen first done in
    let here : AnswersCollector (collectable p later i) later i now result =
    subst (λ (s : CollectorValue). AnswersCollector (collectable p s i) s i now result) seen answer in
    let same : seen_at later i ≡ seen_at first i =
    subst (λ (n : ℕ). seen_at later n ≡ seen_at first n) count (next_seen done first.seen (nothing_seen first.run.start)) in
    moved (collectable p first i) first.number later.seen first.seen first.run i now result same
    (subst (λ (b : Bool). AnswersCollector (require b Stranger >>= λ _. require_some (slice_get p.plan.facts.instruments i) UnknownInstrument) later i now result)
    (own_as_first p first now done below each) here)

-- a stranger is refused at the first instrument, also where there is none
pub stranger : (p : ProviderValue) (seat : CollectorValue) (now : ℕ) → is_collector_of p seat ≡ false → IsRefusedAt p seat now 0 Stranger
stranger p seat now other = record {
  known = λ own. absurd cc;
  answer =
      subst (λ (b : Bool). AnswersCollector (require b Stranger >>= λ _. require_some (slice_get p.plan.facts.instruments 0) UnknownInstrument) seat 0 now (Err Stranger))
      (sym other) refl;
}

-- one collection more
pub record IsOneMore (p : ProviderValue) (first after : CollectorValue) (now : ℕ) (done : List Batch) : Type 0 where
  pub each : AnswersEach p first now done
  pub seen : after ≡ with_all_seen first done

pub one_more : (p : ProviderValue) (first seat after : CollectorValue) (now : ℕ) (done new : List Batch) (batch : Batch) (instrument : ℕ) → length done ≡ instrument
    → seat ≡ with_all_seen first done → AnswersEach p first now done → new ≡ done ++ batch ∷ [] → instrument < length p.plan.facts.instruments
    → AnswersCollector (collectable p seat instrument) seat instrument now (Ok batch) → after ≡ with_seen seat instrument batch
    → IsOneMore p first after now new
one_more p first seat after now done new batch instrument count seen before is known answer then =
    let here : AnswersCollector (collectable p first instrument) first instrument now (Ok batch) =
    as_first p first seat now done instrument (Ok batch) count seen known before answer in
    let from = collected p first instrument now batch here in
    let below : length done < length first.seen = omega (arith, from.long, known, count) in
    let last : AnswersCollector (collectable p first (length done)) first (length done) now (Ok batch) =
    subst (λ (n : ℕ). AnswersCollector (collectable p first n) first n now (Ok batch)) (sym count) here in
    record {
      each = subst (λ (all : List Batch). AnswersEach p first now all) (sym is)
          (at_each_push (λ (i : ℕ) (b : Batch). AnswersCollector (collectable p first i) first i now (Ok b)) done batch before last);
      seen = then
          ∙ ap (λ (s : CollectorValue). with_seen s instrument batch) seen
          ∙ ap (λ (n : ℕ). with_seen (with_all_seen first done) n batch) (sym count)
          ∙ all_seen_more first done batch below
          ∙ ap (λ (all : List Batch). with_all_seen first all) (sym is);
    }
