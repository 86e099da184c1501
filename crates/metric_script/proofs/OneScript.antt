-- Events have a script, and lines are one script at most and have one first fault unless they are a script.
use Rattle.std.proofs.Common.{◌≡◌, ℕ, ◌<◌, ◌^◌, List, [], ◌∷◌, Option, Some, Result, Ok, Err, IsOk, refl, sym, ap, subst, ◌∙◌}
use Rattle.metric_base.specs.Steps.{◌>>=◌}
use Rattle.std.specs.Prelude.{map}
use Rattle.std.specs.List.{AllByRecursion}
use Rattle.metric_base.specs.FrontLaws.{one_break, no_break}
use Rattle.metric_history.specs.declared.event.Event.{Event}
use Rattle.metric_script.specs.Spelling.{start_text, event_text, FitsEvent}
use Rattle.metric_script.specs.Scripts.{read_lines, IsScript, IsSomeScript, IsFirstFault}
use Rattle.metric_script.specs.Reading.{event_in, start_in}
use Rattle.metric_script.proofs.LineLaws.{event_in-text, start_in-text, event_is_read, start_is_read}
use Rattle.metric_script.specs.Events.{events_in, read_events}
use Rattle.metric_script.specs.Stops.{begun_in, events_read, script_events, script_in}
use Rattle.metric_script.specs.declared.events.ScriptEvents.{ScriptEvents}
use Rattle.metric_script.proofs.ScriptLaws.{Lines, read_lines-read, script_fault}

printed_lines : (events : List Event) → read_lines (map event_text events) ≡ map event_text events
printed_lines [] = refl
printed_lines (event ∷ events) =
    read_lines-read (event_text event) (map event_text events) (event_is_read event) ∙ ap (λ ls. event_text event ∷ ls) (printed_lines events)

-- a start and events that a program can hold have a script
pub printed_script : (start : ℕ) (events : List Event) → start < 2 ^ 64 → AllByRecursion FitsEvent events → IsScript (start_text start ∷ map event_text events) start events
printed_script start events start_fits events_fit = record {
  spelled = read_lines-read (start_text start) (map event_text events) (start_is_read start) ∙ ap (λ ls. start_text start ∷ ls) (printed_lines events);
  start_fits = start_fits;
  events_fit = events_fit;
}

some_same : {A : Type 0} (a b : A) (o : Option A) → o ≡ Some a → o ≡ Some b → a ≡ b
some_same a b o p q = cc

pub same_event : (a b : Event) → FitsEvent a → FitsEvent b → event_text a ≡ event_text b → a ≡ b
same_event a b fits also e = some_same a b (event_in (event_text a)) (event_in-text a fits) (ap event_in e ∙ event_in-text b also)

same_start_text : (s t : ℕ) (lines : Lines) (xs ys : Lines) → lines ≡ start_text s ∷ xs → lines ≡ start_text t ∷ ys → (start_text s ≡ start_text t) × (xs ≡ ys)
same_start_text s t lines xs ys p q = (cc, cc)

pub same_start : (lines : Lines) (s t : ℕ) (a b : List Event) → IsScript lines s a → IsScript lines t b → s ≡ t
same_start lines s t a b p q =
    let same = same_start_text s t _ (map event_text a) (map event_text b) p.spelled q.spelled in
    some_same s t (start_in (start_text s)) (start_in-text s p.start_fits) (ap start_in same.0 ∙ start_in-text t q.start_fits)

same_list : (x y : Event) (xs ys : List Event) → x ≡ y → xs ≡ ys → x ∷ xs ≡ y ∷ ys
same_list x y xs ys p q = cc

same_texts : (a b : List Event) → AllByRecursion FitsEvent a → AllByRecursion FitsEvent b → map event_text a ≡ map event_text b → a ≡ b
same_texts [] [] fits also e = refl
same_texts [] (y ∷ b) fits also e = absurd cc
same_texts (x ∷ a) [] fits also e = absurd cc
same_texts (x ∷ a) (y ∷ b) fits also e =
    let heads : event_text x ≡ event_text y = cc in
    let tails : map event_text a ≡ map event_text b = cc in
    same_list x y a b (same_event x y fits.0 also.0 heads) (same_texts a b fits.1 also.1 tails)

pub same_events : (lines : Lines) (s t : ℕ) (a b : List Event) → IsScript lines s a → IsScript lines t b → a ≡ b
same_events lines s t a b p q =
    same_texts a b p.events_fit q.events_fit (same_start_text s t _ (map event_text a) (map event_text b) p.spelled q.spelled).1

pub same_fault : (lines : Lines) (m n : ℕ) → IsFirstFault lines m → IsFirstFault lines n → m ≡ n
same_fault lines m n p q = one_break IsSomeScript lines m n p q

pub no_script : (lines : Lines) (start : ℕ) (events : List Event) (n : ℕ) → IsScript lines start events → IsFirstFault lines n → ⊥
no_script lines start events n script fault = no_break IsSomeScript lines n (record { start = start; events = events; is_script = script }) fault

read_or_not : {X E P : Type 0} (r : Result X E) → (IsOk r → P) → ((e : E) → r ≡ Err e → P) → P
read_or_not (Ok x) ok err = ok refl
read_or_not (Err e) ok err = err e refl

-- what is a script is read
pub some_is_read : (lines : Lines) → IsSomeScript lines → IsOk (script_in lines)
some_is_read lines some =
    read_or_not (script_in lines) (λ ok. ok) (λ rest stop. absurd (no_script lines some.start some.events _ some.is_script (script_fault lines rest stop)))

ok_before : (begun : ℕ × Lines) (read : Result (List Event) Lines) (all : Result ScriptEvents Lines) → (read >>= λ (events : List Event). Ok (record { start = begun.0; events = events })) ≡ all
    → IsOk all → IsOk read
ok_before begun (Ok events) all same ok = refl
ok_before begun (Err rest) all same ok = subst IsOk (sym same) ok

script_begun : (lines rest : Lines) (start : ℕ) → begun_in lines ≡ Ok (start, rest)
    → script_in lines ≡ (events_in rest >>= λ (events : List Event). Ok (record { start = start; events = events }))
unfolding script_in
script_begun lines rest start begun =
    ap (λ (b : Result (ℕ × Lines) Lines). b >>= λ (x : ℕ × Lines). (events_in x.1 >>= λ (events : List Event). Ok (record { start = x.0; events = events }))) begun

-- so are the lines after its start
pub rest_is_events : (lines rest : Lines) (start : ℕ) → IsSomeScript lines → begun_in lines ≡ Ok (start, rest) → IsOk (events_in rest)
rest_is_events lines rest start some begun = ok_before (start, rest) (events_in rest) (script_in lines) (sym (script_begun lines rest start begun)) (some_is_read lines some)

of_events : (start : ℕ) (read : Result (List Event) Lines) → events_read (read >>= λ (events : List Event). Ok (record { start = start; events = events })) ≡ read_events read
of_events start (Ok events) = refl
of_events start (Err rest) = refl

pub rest_has_events : (lines rest : Lines) (start : ℕ) → begun_in lines ≡ Ok (start, rest) → read_events (events_in rest) ≡ script_events lines
rest_has_events lines rest start begun = sym (ap events_read (script_begun lines rest start begun) ∙ of_events start (events_in rest))

-- it has a start
never_read : (lines rest : Lines) → begun_in lines ≡ Err rest → script_in lines ≡ Err rest
unfolding script_in
never_read lines rest never =
    ap (λ (b : Result (ℕ × Lines) Lines). b >>= λ (x : ℕ × Lines). (events_in x.1 >>= λ (events : List Event). Ok (record { start = x.0; events = events }))) never

pub some_is_begun : (lines rest : Lines) → IsSomeScript lines → begun_in lines ≡ Err rest → ⊥
some_is_begun lines rest some never = no_script lines some.start some.events _ some.is_script (script_fault lines rest (never_read lines rest never))
