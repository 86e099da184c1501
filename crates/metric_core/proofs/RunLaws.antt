-- How all cells keep to a history with one event more, and what is legal for a list of events.
use Rattle.std.proofs.Common.{◌≡◌, ◌≢◌, ℕ, zero, suc, ◌<◌, ◌≤◌, List, [], ◌∷◌, ◌++◌, Some, length, get_or, refl, sym, ap, subst, ◌∙◌, arith, ⊎_elim}
use Rattle.std.specs.Prelude.{slice_get, slice_set}
use Rattle.std.proofs.lemmas.Bool.{cases_eq}
use Rattle.std.proofs.lemmas.List.{length-set, get_or-set_same, get_or-set_other}
use Rattle.std.proofs.lemmas.Option.{slice_get-get_or, slice_get_within, slice_get_past, get_or_from_slice_get, same_Some}
use Rattle.metric_history.specs.Journals.{Standing}
use Rattle.metric_contents.specs.declared.contents.Contents.{Contents}
use Rattle.metric_contents.specs.declared.refusal.Refusal.TheVariants.{UnknownInstrument}
use Rattle.metric_history.specs.declared.event.Event.{Event}
use Rattle.metric_history.specs.declared.event.Reply.{Reply}
use Rattle.metric_history.specs.declared.event.Reply.TheVariants.{Refused}
use Rattle.metric_history.specs.Events.{instrument_of}
use Rattle.metric_facts.specs.Facts.{RunFacts}
use Rattle.metric_history.specs.History.{History, answered, told_of}
use Rattle.metric_history.specs.Legal.{Legal, AllLegal, grown}
use Rattle.metric_core.specs.Cells.{CellValue}
use Rattle.metric_core.specs.CoreStands.{AreCellsOf, CellKeepsTo}
use Rattle.metric_core.specs.Steps.{CellStep, Steps, outcome}
use Rattle.metric_core.proofs.FollowingLaws.{cell_facts, elsewhere_is_quiet, event_follows, event_legal, quiet_follows, refused_is_quiet, unknown_legal}

slice_get-set_same : {X : Type 0} (xs : List X) (k : ℕ) (x : X) → k < length xs → slice_get (slice_set xs k x) k ≡ Some x
slice_get-set_same xs k x below =
    slice_get-get_or (slice_set xs k x) k x (omega (arith, length-set xs k x)) ∙ ap Some (get_or-set_same xs k x x below)

slice_get-set_other : {X : Type 0} (xs : List X) (k i : ℕ) (x y : X) → i ≢ k → slice_get (slice_set xs k x) i ≡ Some y → slice_get xs i ≡ Some y
slice_get-set_other xs k i x y other found =
    let below : i < length xs = omega (arith, slice_get_within (slice_set xs k x) i y found, length-set xs k x) in
    slice_get-get_or xs i y below ∙ ap Some (sym (get_or-set_other xs k i x y other) ∙ get_or_from_slice_get (slice_set xs k x) i y y found)

-- what holds of each element at its place holds with one replaced, where it holds of the new one
at_each : {X : Type 0} (P : ℕ → X → Type 0) (xs : List X) (k : ℕ) (x : X) → k < length xs → P k x
    → ((i : ℕ) (y : X) → i ≢ k → slice_get xs i ≡ Some y → P i y) → (i : ℕ) (y : X) → slice_get (slice_set xs k x) i ≡ Some y → P i y
at_each P xs k x below here there i y found = ⊎_elim at_k (λ other. there i y other (slice_get-set_other xs k i x y other found)) (cases_eq i k)
  where
    at_k : i ≡ k → P i y
    at_k same =
        let got : slice_get (slice_set xs k x) i ≡ Some x = subst (λ (n : ℕ). slice_get (slice_set xs k x) n ≡ Some x) (sym same) (slice_get-set_same xs k x below) in
        let is_x : x ≡ y = same_Some x y (sym got ∙ found) in
        subst (P i) is_x (subst (λ (n : ℕ). P n x) (sym same) here)

-- what holds of each element at its place holds with one more
pub at_each_push : {X : Type 0} (P : ℕ → X → Type 0) (xs : List X) (x : X) → ((i : ℕ) (y : X) → slice_get xs i ≡ Some y → P i y) → P (length xs) x
    → (i : ℕ) (y : X) → slice_get (xs ++ x ∷ []) i ≡ Some y → P i y
at_each_push P [] x each last zero y found = subst (P 0) (same_Some x y found) last
at_each_push P [] x each last (suc i) y found = absurd cc
at_each_push P (w ∷ xs) x each last zero y found = each 0 y found
at_each_push P (w ∷ xs) x each last (suc i) y found = at_each_push (λ n. P (suc n)) xs x (λ j z f. each (suc j) z f) last i y found

-- the facts of a cell after an event
step_facts : {B : Type 0} (stands : B → Standing) (facts : RunFacts) (c new : CellValue B) (event : Event) (reply : Reply) → CellStep stands facts.contents c event (outcome reply new)
    → new.facts ≡ c.facts
step_facts {B} stands facts c new event reply step = ap (λ (v : CellValue B). v.facts) step.after ∙ cell_facts facts.contents c event reply new.book

-- an event of a known instrument
pub known_steps : {B : Type 0} (stands : B → Standing) (facts : RunFacts) (cells : List (CellValue B)) (c new : CellValue B) (event : Event) (reply : Reply)
    → slice_get cells (instrument_of event) ≡ Some c → CellStep stands facts.contents c event (outcome reply new)
    → Steps stands facts cells event (outcome reply (slice_set cells (instrument_of event) new))
known_steps {B} stands facts cells c new event reply found step =
    record {
      cells_of = cells_of;
      legal = λ since h s. event_legal stands facts since c new h event reply (s.cells_of.own (instrument_of event) c found) (s.each (instrument_of event) c found) step;
      follows = λ since h s. record {
        cells_of = cells_of s.cells_of;
        each = at_each (λ (i : ℕ) (d : CellValue B). CellKeepsTo stands d since (told_of facts since (answered event reply ∷ h) i)) cells (instrument_of event) new below
            (event_follows stands facts since c new h event reply step (s.each (instrument_of event) c found))
            (λ i d other there. quiet_follows stands facts since d h i event reply (elsewhere_is_quiet facts i event reply (λ e. other (sym e))) (s.each i d there));
      };
    }
  where
    below : instrument_of event < length cells
    below = slice_get_within cells (instrument_of event) c found

    cells_of : AreCellsOf facts.instruments cells → AreCellsOf facts.instruments (slice_set cells (instrument_of event) new)
    cells_of of = record {
      one_each = length-set cells (instrument_of event) new ∙ of.one_each;
      own = at_each (λ (i : ℕ) (d : CellValue B). slice_get facts.instruments i ≡ Some d.facts) cells (instrument_of event) new below
          (of.own (instrument_of event) c found ∙ ap Some (sym (step_facts stands facts c new event reply step)))
          (λ i d other there. of.own i d there);
    }

-- an event of an instrument that has no cell
pub unknown_steps : {B : Type 0} (stands : B → Standing) (facts : RunFacts) (cells : List (CellValue B)) (event : Event) → length cells ≤ instrument_of event
    → Steps stands facts cells event (outcome (Refused UnknownInstrument) cells)
unknown_steps stands facts cells event past = record {
  cells_of = λ of. of;
  legal = λ since h s. unknown_legal facts since h event (slice_get_past facts.instruments (instrument_of event) (omega (arith, s.cells_of.one_each)));
  follows = λ since h s. record {
    cells_of = s.cells_of;
    each = λ i c found. quiet_follows stands facts since c h i event (Refused UnknownInstrument) (refused_is_quiet facts i event UnknownInstrument) (s.each i c found);
  };
}

-- one event more
pub AllLegal_push : (facts : RunFacts) (since : ℕ) (events : List Event) (replies : List Reply) (h : History) (event : Event) (reply : Reply)
    → length replies ≡ length events → AllLegal facts since h events replies → Legal facts since (grown h events replies) event reply
    → AllLegal facts since h (events ++ event ∷ []) (replies ++ reply ∷ [])
AllLegal_push facts since [] [] h event reply long all legal = (legal, tt)
AllLegal_push facts since [] (r ∷ replies) h event reply long all legal = absurd all
AllLegal_push facts since (e ∷ events) [] h event reply long all legal = absurd all
AllLegal_push facts since (e ∷ events) (r ∷ replies) h event reply long all legal =
    (all.0, AllLegal_push facts since events replies (answered e r ∷ h) event reply (omega arith) all.1 legal)

pub grown_push : (events : List Event) (replies : List Reply) (h : History) (event : Event) (reply : Reply)
    → length replies ≡ length events → grown h (events ++ event ∷ []) (replies ++ reply ∷ []) ≡ answered event reply ∷ grown h events replies
grown_push [] [] h event reply long = refl
grown_push [] (r ∷ replies) h event reply long = absurd (omega arith)
grown_push (e ∷ events) [] h event reply long = absurd (omega arith)
grown_push (e ∷ events) (r ∷ replies) h event reply long = grown_push events replies (answered e r ∷ h) event reply (omega arith)

-- The same by places.
pub unknown_at : {B : Type 0} (stands : B → Standing) (facts : RunFacts) (cells : List (CellValue B)) (event : Event) (k : ℕ) → k ≡ instrument_of event → length cells ≤ k
    → Steps stands facts cells event (outcome (Refused UnknownInstrument) cells)
unknown_at stands facts cells event k at past = unknown_steps stands facts cells event (omega (arith, at))

pub known_at : {B : Type 0} (stands : B → Standing) (facts : RunFacts) (cells : List (CellValue B)) (event : Event) (reply : Reply) (k : ℕ) (contents : Contents) (d new : CellValue B)
    → k ≡ instrument_of event → contents ≡ facts.contents → k < length cells → CellStep stands contents (get_or cells k d) event (outcome reply new)
    → Steps stands facts cells event (outcome reply (slice_set cells k new))
known_at {B} stands facts cells event reply k contents d new at declared held step =
    let found : slice_get cells k ≡ Some (get_or cells k d) = slice_get-get_or cells k d held in
    let own : CellStep stands facts.contents (get_or cells k d) event (outcome reply new) = subst (λ (of : Contents). CellStep stands of (get_or cells k d) event (outcome reply new)) declared step in
    subst (λ (n : ℕ). Steps stands facts cells event (outcome reply (slice_set cells n new))) (sym at)
    (known_steps stands facts cells (get_or cells k d) new event reply (subst (λ (n : ℕ). slice_get cells n ≡ Some (get_or cells k d)) at found) own)
