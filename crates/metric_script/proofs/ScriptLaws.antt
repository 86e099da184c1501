-- The lines of a script: what is read of them is a script, and where nothing is read stands the first fault.
use Rattle.std.proofs.Common.{◌≡◌, ℕ, ◌-◌, ◌<◌, ◌≤◌, ◌^◌, ◌⊎◌, inl, inr, Bool, true, false, not, List, [], ◌∷◌, ◌++◌, length, Option, None, Some, Result, Ok, Err, refl, sym, ap, subst, ◌∙◌, append_assoc, append-nil, length-append, arith, lit<}
use Rattle.std.specs.Prelude.{map}
use Rattle.std.specs.Borrow.{Bor}
use Rattle.std.specs.List.{AllByRecursion}
use Rattle.std.proofs.lemmas.List.{length-map}
use Rattle.std.proofs.lemmas.List.Elements.{filter-append}
use Rattle.metric_base.specs.Steps.{◌>>=◌}
use Rattle.metric_base.specs.Fronts.{BeginsWhole, IsStuck}
use Rattle.metric_history.specs.declared.event.Event.{Event}
use Rattle.metric_parts.specs.Reading.{texts}
use Rattle.metric_script.specs.declared.events.ScriptEvents.{ScriptEvents}
use Rattle.metric_script.specs.Spelling.{start_text, event_text, FitsEvent}
use Rattle.metric_script.specs.Scripts.{is_passed_over, read_lines, IsScript, IsSomeScript, IsFirstFault}
use Rattle.metric_script.specs.Reading.{event_in, start_in}
use Rattle.metric_script.specs.Events.{events_in, with_event}
use Rattle.metric_script.specs.Stops.{begun_by, begun_in, script_in}
use Rattle.metric_script.proofs.LineLaws.{event_in-text, event_in-some, start_in-text, start_in-some, start_is_read}

abbrev pub Lines : Type 0
Lines = List (List ℕ)

true_or_false : (test : Bool) → (test ≡ true) ⊎ (test ≡ false)
true_or_false true = inl refl
true_or_false false = inr refl

read_lines-passed : (line : List ℕ) (lines : Lines) → is_passed_over line ≡ true → read_lines (line ∷ lines) ≡ read_lines lines
read_lines-passed line lines passed = rw passed refl

pub read_lines-read : (line : List ℕ) (lines : Lines) → is_passed_over line ≡ false → read_lines (line ∷ lines) ≡ line ∷ read_lines lines
read_lines-read line lines is_read = rw is_read refl

-- Events

-- the events that lines spell
abbrev Spells : Lines → List Event → Type 0
Spells lines events = AllByRecursion FitsEvent events × (read_lines lines ≡ map event_text events)

pub events_in-passed : (line : List ℕ) (lines : Lines) → is_passed_over line ≡ true → events_in (line ∷ lines) ≡ events_in lines
unfolding events_in
events_in-passed line lines passed = rw passed refl

pub events_in-read : (line : List ℕ) (lines : Lines) → is_passed_over line ≡ false → events_in (line ∷ lines) ≡ with_event (event_in line) line lines (events_in lines)
unfolding events_in
events_in-read line lines is_read = rw is_read refl

one_event : {P : Type 0} (o : Option Event) (line : List ℕ) (lines : Lines) (others : Result (List Event) Lines) (events : List Event) → with_event o line lines others ≡ Ok events
    → ((event : Event) (more : List Event) → o ≡ Some event → others ≡ Ok more → event ∷ more ≡ events → P) → P
one_event None line lines others events e next = absurd cc
one_event (Some event) line lines (Ok more) events e next = next event more refl refl cc
one_event (Some event) line lines (Err rest) events e next = absurd cc

one_stop : {P : Type 0} (o : Option Event) (line : List ℕ) (lines : Lines) (others : Result (List Event) Lines) (rest : Lines) → with_event o line lines others ≡ Err rest
    → (o ≡ None → line ∷ lines ≡ rest → P) → ((event : Event) → o ≡ Some event → others ≡ Err rest → P) → P
one_stop None line lines others rest e here later = here refl cc
one_stop (Some event) line lines (Ok more) rest e here later = absurd cc
one_stop (Some event) line lines (Err left) rest e here later = later event refl cc

consed : (x y : List ℕ) (xs ys : Lines) → x ≡ y → xs ≡ ys → x ∷ xs ≡ y ∷ ys
consed x y xs ys p q = cc

spells_more : (line : List ℕ) (lines : Lines) (event : Event) (events : List Event) → is_passed_over line ≡ false → event_in line ≡ Some event → Spells lines events
    → Spells (line ∷ lines) (event ∷ events)
spells_more line lines event events is_read found spells =
    let told = event_in-some line event found in
    ((told.0, spells.0), read_lines-read line lines is_read ∙ consed line (event_text event) (read_lines lines) (map event_text events) told.1 spells.1)

events_found : (lines : Lines) (events : List Event) → events_in lines ≡ Ok events → Spells lines events
unfolding events_in
events_found [] events e = let none : [] ≡ events = cc in subst (Spells []) none (tt, refl)
events_found (line ∷ lines) events e =
    elim (true_or_false (is_passed_over line)) [
      | inl passed ↦
          let more = events_found lines events (sym (events_in-passed line lines passed) ∙ e) in
          (more.0, read_lines-passed line lines passed ∙ more.1)
      | inr is_read ↦
          one_event (event_in line) line lines (events_in lines) events (sym (events_in-read line lines is_read) ∙ e) (λ event more found others is.
          subst (Spells (line ∷ lines)) is (spells_more line lines event more is_read found (events_found lines more others)))
    ]

-- Lines that spell events, and then one that spells none.
record StopsAt (lines rest : Lines) : Type 0 where
  before : Lines
  events : List Event
  bad : List ℕ
  after : Lines
  whole : lines ≡ before ++ rest
  begins : rest ≡ bad ∷ after
  spelled : Spells before events
  is_read : is_passed_over bad ≡ false
  none : event_in bad ≡ None

events_stop : (lines rest : Lines) → events_in lines ≡ Err rest → StopsAt lines rest
unfolding events_in
events_stop [] rest e = absurd cc
events_stop (line ∷ lines) rest e =
    elim (true_or_false (is_passed_over line)) [
      | inl passed ↦
          let stop = events_stop lines rest (sym (events_in-passed line lines passed) ∙ e) in
          record {
            before = line ∷ stop.before;
            events = stop.events;
            bad = stop.bad;
            after = stop.after;
            whole = ap (λ ls. line ∷ ls) stop.whole;
            begins = stop.begins;
            spelled = (stop.spelled.0, read_lines-passed line stop.before passed ∙ stop.spelled.1);
            is_read = stop.is_read;
            none = stop.none;
          }
      | inr is_read ↦
          one_stop (event_in line) line lines (events_in lines) rest (sym (events_in-read line lines is_read) ∙ e)
          (λ none is. record { before = []; events = []; bad = line; after = lines; whole = is; begins = sym is; spelled = (tt, refl); is_read = is_read; none = none })
          (λ event found others.
          let stop = events_stop lines rest others in
          record {
            before = line ∷ stop.before;
            events = event ∷ stop.events;
            bad = stop.bad;
            after = stop.after;
            whole = ap (λ ls. line ∷ ls) stop.whole;
            begins = stop.begins;
            spelled = spells_more line stop.before event stop.events is_read found stop.spelled;
            is_read = stop.is_read;
            none = stop.none;
          })
    ]

-- The start

pub begun_in-passed : (line : List ℕ) (lines : Lines) → is_passed_over line ≡ true → begun_in (line ∷ lines) ≡ begun_in lines
unfolding begun_in
begun_in-passed line lines passed = rw passed refl

pub begun_in-read : (line : List ℕ) (lines : Lines) → is_passed_over line ≡ false → begun_in (line ∷ lines) ≡ begun_by (start_in line) line lines
unfolding begun_in
begun_in-read line lines is_read = rw is_read refl

start_of : Result (ℕ × Lines) Lines → ℕ → ℕ
start_of (Ok x) other = x.0
start_of (Err rest) other = other

rest_of : Result (ℕ × Lines) Lines → Lines → Lines
rest_of (Ok x) other = x.1
rest_of (Err rest) other = other

one_start : {P : Type 0} (o : Option ℕ) (line : List ℕ) (lines : Lines) (start : ℕ) (rest : Lines) → begun_by o line lines ≡ Ok (start, rest) → (o ≡ Some start → lines ≡ rest → P) → P
unfolding start_of rest_of
one_start None line lines start rest e next = absurd cc
one_start (Some found) line lines start rest e next =
    next (ap (λ n. Some n) (ap (λ r. start_of r start) e)) (ap (λ r. rest_of r rest) e)

no_start : {P : Type 0} (o : Option ℕ) (line : List ℕ) (lines rest : Lines) → begun_by o line lines ≡ Err rest → (o ≡ None → line ∷ lines ≡ rest → P) → P
no_start None line lines rest e next = next refl cc
no_start (Some found) line lines rest e next = absurd cc

-- Lines that are passed over, the start, and the rest.
record Begins (lines : Lines) (start : ℕ) (rest : Lines) : Type 0 where
  before : Lines
  whole : lines ≡ before ++ start_text start ∷ rest
  passed : read_lines before ≡ []
  fits : start < 2 ^ 64

begun_found : (lines : Lines) (start : ℕ) (rest : Lines) → begun_in lines ≡ Ok (start, rest) → Begins lines start rest
unfolding begun_in
begun_found [] start rest e = absurd cc
begun_found (line ∷ lines) start rest e =
    elim (true_or_false (is_passed_over line)) [
      | inl passed ↦
          let begins = begun_found lines start rest (sym (begun_in-passed line lines passed) ∙ e) in
          record {
            before = line ∷ begins.before;
            whole = ap (λ ls. line ∷ ls) begins.whole;
            passed = read_lines-passed line begins.before passed ∙ begins.passed;
            fits = begins.fits;
          }
      | inr is_read ↦
          one_start (start_in line) line lines start rest (sym (begun_in-read line lines is_read) ∙ e) (λ found same.
          let told = start_in-some line start found in
          record { before = []; whole = consed line (start_text start) lines rest told.1 same; passed = refl; fits = told.0 })
    ]

-- no line is left, or the first is no start
abbrev IsNoStart : Lines → Type 0
IsNoStart [] = Unit {0}
IsNoStart (bad ∷ after) = (is_passed_over bad ≡ false) × (start_in bad ≡ None)

-- Lines that are passed over, and then no start.
record NeverBegins (lines rest : Lines) : Type 0 where
  before : Lines
  whole : lines ≡ before ++ rest
  passed : read_lines before ≡ []
  none : IsNoStart rest

begun_stop : (lines rest : Lines) → begun_in lines ≡ Err rest → NeverBegins lines rest
unfolding begun_in
begun_stop [] rest e = let none : [] ≡ rest = cc in subst (NeverBegins []) none (record { before = []; whole = refl; passed = refl; none = tt })
begun_stop (line ∷ lines) rest e =
    elim (true_or_false (is_passed_over line)) [
      | inl passed ↦
          let stop = begun_stop lines rest (sym (begun_in-passed line lines passed) ∙ e) in
          record {
            before = line ∷ stop.before;
            whole = ap (λ ls. line ∷ ls) stop.whole;
            passed = read_lines-passed line stop.before passed ∙ stop.passed;
            none = stop.none;
          }
      | inr is_read ↦
          no_start (start_in line) line lines rest (sym (begun_in-read line lines is_read) ∙ e) (λ none is.
          subst (NeverBegins (line ∷ lines)) is (record { before = []; whole = refl; passed = refl; none = (is_read, none) }))
    ]

-- The script

ok_after : {A B E P : Type 0} (r : Result A E) (f : A → Result B E) (y : B) → (r >>= f) ≡ Ok y → ((x : A) → r ≡ Ok x → f x ≡ Ok y → P) → P
ok_after (Ok x) f y e next = next x refl e
ok_after (Err fault) f y e next = absurd cc

err_after : {A B E P : Type 0} (r : Result A E) (f : A → Result B E) (fault : E) → (r >>= f) ≡ Err fault → (r ≡ Err fault → P) → ((x : A) → r ≡ Ok x → f x ≡ Err fault → P) → P
err_after (Ok x) f fault e first second = second x refl e
err_after (Err other) f fault e first second = first cc

-- the first line that is not passed over
first_read : (before : Lines) (line : List ℕ) (rest : Lines) → read_lines before ≡ [] → is_passed_over line ≡ false → read_lines (before ++ line ∷ rest) ≡ line ∷ read_lines rest
first_read before line rest passed is_read =
    filter-append (λ l. not (is_passed_over l)) before (line ∷ rest) ∙ ap (λ ls. ls ++ read_lines (line ∷ rest)) passed ∙ read_lines-read line rest is_read

-- What is read is a script.
pub script_found : (lines : Lines) (script : ScriptEvents) → script_in lines ≡ Ok script → IsScript lines script.start script.events
unfolding script_in
script_found lines script e =
    ok_after (begun_in lines) _ script e (λ begun first e.
    ok_after (events_in begun.1) _ script e (λ events others made.
    let begins = begun_found lines begun.0 begun.1 first in
    let spells = events_found begun.1 events others in
    let same : record { start = begun.0; events = events } ≡ script = cc in
    subst (λ (s : ScriptEvents). IsScript lines s.start s.events) same (record {
      spelled = ap read_lines begins.whole ∙ first_read begins.before (start_text begun.0) begun.1 begins.passed (start_is_read begun.0) ∙ ap (λ ls. start_text begun.0 ∷ ls) spells.1;
      start_fits = begins.fits;
      events_fit = spells.0;
    })))

-- The lines before the rest begin a script, and none goes on with the rest.
pub record FaultAt (lines rest : Lines) : Type 0 where
  pub before : Lines
  pub whole : lines ≡ before ++ rest
  pub begun : BeginsWhole IsSomeScript before
  pub stuck : IsStuck IsSomeScript before rest

never_begun : (before : Lines) → read_lines before ≡ [] → BeginsWhole IsSomeScript before
never_begun before passed = record {
  more = start_text 0 ∷ [];
  is_whole = record {
    start = 0;
    events = [];
    is_script = record { spelled = first_read before (start_text 0) [] passed (start_is_read 0); start_fits = lit< tt; events_fit = tt };
  };
}

no_first : (before after : Lines) (bad : List ℕ) (start : ℕ) (texts : Lines) → read_lines before ≡ [] → is_passed_over bad ≡ false
    → read_lines ((before ++ bad ∷ []) ++ after) ≡ start_text start ∷ texts → bad ≡ start_text start
no_first before after bad start texts passed is_read e =
    let first = first_read before bad after passed is_read in
    let same : bad ∷ read_lines after ≡ start_text start ∷ texts = sym first ∙ ap read_lines (sym (append_assoc before (bad ∷ []) after)) ∙ e in
    cc

never_stuck : (before rest : Lines) → read_lines before ≡ [] → IsNoStart rest → IsStuck IsSomeScript before rest
never_stuck before [] passed none = λ whole. absurd (let spelled = whole.is_script.spelled in cc)
never_stuck before (bad ∷ after) passed none = λ begins.
    let same = no_first before begins.more bad begins.is_whole.start (map event_text begins.is_whole.events) passed none.0 begins.is_whole.is_script.spelled in
    let is : start_in bad ≡ Some begins.is_whole.start = ap start_in same ∙ start_in-text begins.is_whole.start begins.is_whole.is_script.start_fits in
    absurd (let is_none = none.1 in cc)

never_fault : (lines rest : Lines) → NeverBegins lines rest → FaultAt lines rest
never_fault lines rest never = record {
  before = never.before;
  whole = never.whole;
  begun = never_begun never.before never.passed;
  stuck = never_stuck never.before rest never.passed never.none;
}

-- one of the lines that events spell
among : (front : Lines) (bad : List ℕ) (back : Lines) (events : List Event) → AllByRecursion FitsEvent events → front ++ bad ∷ back ≡ map event_text events
    → (event : Event) × FitsEvent event × (bad ≡ event_text event)
among [] bad back [] fits e = absurd cc
among (line ∷ front) bad back [] fits e = absurd cc
among [] bad back (event ∷ events) fits e = (event, fits.0, cc)
among (line ∷ front) bad back (event ∷ events) fits e =
    let same : front ++ bad ∷ back ≡ map event_text events = cc in
    among front bad back events fits.1 same

-- the lines of a script up to a line, and what that line and more spell
begun_with : (front : Lines) (start : ℕ) (before : Lines) (bad : List ℕ) (more : Lines) → read_lines front ≡ [] → is_passed_over bad ≡ false
    → read_lines (((front ++ start_text start ∷ before) ++ bad ∷ []) ++ more) ≡ start_text start ∷ (read_lines before ++ bad ∷ read_lines more)
begun_with front start before bad more passed is_read =
    let line = start_text start in
    ap read_lines (append_assoc (front ++ line ∷ before) (bad ∷ []) more ∙ append_assoc front (line ∷ before) (bad ∷ more))
    ∙ first_read front line (before ++ bad ∷ more) passed (start_is_read start)
    ∙ ap (λ ls. line ∷ ls) (filter-append (λ l. not (is_passed_over l)) before (bad ∷ more) ∙ ap (λ ls. read_lines before ++ ls) (read_lines-read bad more is_read))

tails_same : (x y : List ℕ) (xs ys zs : Lines) → zs ≡ x ∷ xs → zs ≡ y ∷ ys → xs ≡ ys
tails_same x y xs ys zs p q = cc

no_event : (bad : List ℕ) → event_in bad ≡ None → (event : Event) → FitsEvent event → bad ≡ event_text event → ⊥
no_event bad none event fits same = let is : event_in bad ≡ Some event = ap event_in same ∙ event_in-text event fits in cc

stop_stuck : (front : Lines) (start : ℕ) (before : Lines) (bad : List ℕ) → read_lines front ≡ [] → is_passed_over bad ≡ false → event_in bad ≡ None
    → BeginsWhole IsSomeScript ((front ++ start_text start ∷ before) ++ bad ∷ []) → ⊥
stop_stuck front start before bad passed is_read none begins =
    let same = tails_same (start_text start) (start_text begins.is_whole.start) (read_lines before ++ bad ∷ read_lines begins.more) (map event_text begins.is_whole.events) _
    (begun_with front start before bad begins.more passed is_read) begins.is_whole.is_script.spelled in
    let found = among (read_lines before) bad (read_lines begins.more) begins.is_whole.events begins.is_whole.is_script.events_fit same in
    no_event bad none found.0 found.1 found.2

events_fault : (lines tail rest : Lines) (start : ℕ) → Begins lines start tail → StopsAt tail rest → FaultAt lines rest
events_fault lines tail rest start begins stop =
    let before = begins.before ++ start_text start ∷ stop.before in
    record {
      before = before;
      whole = begins.whole ∙ ap (λ ls. begins.before ++ start_text start ∷ ls) stop.whole ∙ sym (append_assoc begins.before (start_text start ∷ stop.before) rest);
      begun = record {
        more = [];
        is_whole = record {
          start = start;
          events = stop.events;
          is_script = record {
            spelled = ap read_lines (append-nil before) ∙ first_read begins.before (start_text start) stop.before begins.passed (start_is_read start)
                ∙ ap (λ ls. start_text start ∷ ls) stop.spelled.1;
            start_fits = begins.fits;
            events_fit = stop.spelled.0;
          };
        };
      };
      stuck = subst (IsStuck IsSomeScript before) (sym stop.begins) (stop_stuck begins.before start stop.before stop.bad begins.passed stop.is_read stop.none);
    }

pub script_stop : (lines rest : Lines) → script_in lines ≡ Err rest → FaultAt lines rest
unfolding script_in
script_stop lines rest e =
    err_after (begun_in lines) _ rest e (λ first. never_fault lines rest (begun_stop lines rest first)) (λ begun first e.
    err_after (events_in begun.1) _ rest e
    (λ others. events_fault lines begun.1 rest begun.0 (begun_found lines begun.0 begun.1 first) (events_stop begun.1 rest others))
    (λ events others e. absurd cc))

fault_place : (before rest lines : Lines) → lines ≡ before ++ rest → length lines - length rest ≡ length before
fault_place before rest lines whole = omega (arith, ap length whole ∙ length-append before rest)

-- Where nothing is read stands the first fault.
pub script_fault : (lines rest : Lines) → script_in lines ≡ Err rest → IsFirstFault lines (length lines - length rest)
script_fault lines rest e =
    let fault = script_stop lines rest e in
    record { before = fault.before; rest = rest; whole = fault.whole; at = fault_place fault.before rest lines fault.whole; begun = fault.begun; stuck = fault.stuck }

-- The same of lists of references.
pub texts_fault : (lines rest : List (Bor (List ℕ))) → script_in (texts lines) ≡ Err (texts rest) → IsFirstFault (texts lines) (length lines - length rest)
texts_fault lines rest e =
    let fault = script_fault (texts lines) (texts rest) e in
    rw (length-map lines (λ line. line.now), length-map rest (λ line. line.now)) at fault

pub texts_fits : (lines rest : List (Bor (List ℕ))) → script_in (texts lines) ≡ Err (texts rest) → length rest ≤ length lines
texts_fits lines rest e =
    let fault = script_stop (texts lines) (texts rest) e in
    omega (arith, ap length fault.whole ∙ length-append fault.before (texts rest), length-map lines (λ line. line.now), length-map rest (λ line. line.now))
