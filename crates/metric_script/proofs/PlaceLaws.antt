-- The lines of a script, place by place.
use Rattle.std.proofs.Common.{◌≡◌, ℕ, ◌+◌, ◌<◌, ◌≤◌, Bool, true, false, ◌||◌, is_some, IsOk, IsTrue, List, [], ◌∷◌, ◌++◌, length, drop, get_or, Option, None, Some, Result, Ok, Err, refl, sym, ap, subst, ◌∙◌, append_assoc, append-nil, arith}
use Rattle.std.specs.Borrow.{Bor}
use Rattle.std.proofs.lemmas.List.{drop_more, at_drop_all}
use Rattle.metric_history.specs.declared.event.Event.{Event}
use Rattle.metric_parts.specs.Reading.{texts}
use Rattle.metric_text.specs.Reading.{Tells}
use Rattle.metric_text.specs.declared.fault.SpellingFault.{SpellingFault}
use Rattle.metric_text.specs.declared.fault.SpellingFault.TheVariants.{Bad, Memory as WantOfMemory}
use Rattle.metric_script.specs.declared.stop.Stop.{Stop}
use Rattle.metric_script.specs.declared.stop.Stop.TheVariants.{At}
use Rattle.metric_script.specs.Scripts.{is_passed_over}
use Rattle.metric_script.specs.Reading.{event_in, start_in}
use Rattle.metric_script.specs.Events.{after_events, events_in, is_line_of_event, read_events, with_event}
use Rattle.metric_script.specs.Stops.{TellsLines, stop_of, begun_by, begun_in}
use Rattle.metric_script.proofs.ScriptLaws.{Lines, events_in-passed, events_in-read, begun_in-passed, begun_in-read}

abbrev Slices : Type 0
Slices = List (Bor (List ℕ))

-- the line at a place, and the lines after it
texts_at : (lines : Slices) (i : ℕ) (d : Bor (List ℕ)) → i < length lines → texts (drop i lines) ≡ (get_or lines i d).now ∷ texts (drop (i + 1) lines)
texts_at lines i d below = ap texts (drop_more lines i d below)

-- a fault of a line as the reason to stop
pub stop_told : {X Y : Type 0} (view : X → Y) (fault : SpellingFault) (stop : Stop) (rest : Bor Slices) (read : Result Y Lines) → stop ≡ stop_of rest fault → (fault ≡ Bad → read ≡ Err (texts rest.now))
    → TellsLines view (Err stop) read
stop_told view Bad stop rest read is bad = subst (λ s. TellsLines view (Err s) read) (sym is) (bad refl)
stop_told view WantOfMemory stop rest read is bad = subst (λ s. TellsLines view (Err s) read) (sym is) tt

pub told_none : {X Y : Type 0} (view : X → Y) (fault : SpellingFault) (read : Option Y) → Tells view (Err fault) read → fault ≡ Bad → read ≡ None
told_none view Bad read told bad = told
told_none view WantOfMemory read told bad = absurd cc

pub stop_is : {X Y : Type 0} (view : X → Y) (stop : Stop) (rest : Bor Slices) (read : Result Y Lines) → stop ≡ At rest → TellsLines view (Err stop) read → read ≡ Err (texts rest.now)
stop_is view stop rest read is told = subst (λ s. TellsLines view (Err s) read) is told

-- The start

pub begun_passed : (lines : Slices) (i : ℕ) (d : Bor (List ℕ)) (all : Result (ℕ × Lines) Lines) → i < length lines → is_passed_over (get_or lines i d).now ≡ true
    → begun_in (texts (drop i lines)) ≡ all → begun_in (texts (drop (i + 1) lines)) ≡ all
begun_passed lines i d all below passed so_far =
    sym (begun_in-passed (get_or lines i d).now (texts (drop (i + 1) lines)) passed) ∙ ap begun_in (sym (texts_at lines i d below)) ∙ so_far

begun_here : (lines : Slices) (i : ℕ) (d : Bor (List ℕ)) (all : Result (ℕ × Lines) Lines) → i < length lines → is_passed_over (get_or lines i d).now ≡ false
    → begun_in (texts (drop i lines)) ≡ all → all ≡ begun_by (start_in (get_or lines i d).now) (get_or lines i d).now (texts (drop (i + 1) lines))
begun_here lines i d all below is_read so_far =
    sym so_far ∙ ap begun_in (texts_at lines i d below) ∙ begun_in-read (get_or lines i d).now (texts (drop (i + 1) lines)) is_read

pub begun_start : (lines rest : Slices) (i start : ℕ) (d : Bor (List ℕ)) (all : Result (ℕ × Lines) Lines) → i < length lines → is_passed_over (get_or lines i d).now ≡ false
    → start_in (get_or lines i d).now ≡ Some start → rest ≡ drop (i + 1) lines → begun_in (texts (drop i lines)) ≡ all → all ≡ Ok (start, texts rest)
begun_start lines rest i start d all below is_read found is so_far =
    begun_here lines i d all below is_read so_far
    ∙ ap (λ o. begun_by o (get_or lines i d).now (texts (drop (i + 1) lines))) found ∙ ap (λ (ls : Slices). Ok (start, texts ls)) (sym is)

pub begun_bad : (lines rest : Slices) (i : ℕ) (d : Bor (List ℕ)) (all : Result (ℕ × Lines) Lines) → i < length lines → is_passed_over (get_or lines i d).now ≡ false
    → start_in (get_or lines i d).now ≡ None → rest ≡ drop i lines → begun_in (texts (drop i lines)) ≡ all → all ≡ Err (texts rest)
begun_bad lines rest i d all below is_read none is so_far =
    begun_here lines i d all below is_read so_far
    ∙ ap (λ o. begun_by o (get_or lines i d).now (texts (drop (i + 1) lines))) none
    ∙ ap (λ ls. Err ls) (sym (texts_at lines i d below) ∙ ap texts (sym is))

pub begun_end : (lines rest : Slices) (i : ℕ) (all : Result (ℕ × Lines) Lines) → length lines ≤ i → rest ≡ drop (length lines) lines
    → begun_in (texts (drop i lines)) ≡ all → all ≡ Err (texts rest)
unfolding begun_in
begun_end lines rest i all end is so_far =
    sym so_far ∙ at_drop_all (λ ls. begun_in (texts ls)) lines i end
    ∙ ap (λ ls. Err ls) (sym (at_drop_all texts lines (length lines) (omega arith)) ∙ ap texts (sym is))

-- Events

pub events_passed : (lines : Slices) (i : ℕ) (d : Bor (List ℕ)) (before after : List Event) (all : Result (List Event) Lines) → i < length lines
    → is_passed_over (get_or lines i d).now ≡ true → after ≡ before
    → after_events before (events_in (texts (drop i lines))) ≡ all → after_events after (events_in (texts (drop (i + 1) lines))) ≡ all
events_passed lines i d before after all below passed same so_far =
    let step = sym (events_in-passed (get_or lines i d).now (texts (drop (i + 1) lines)) passed) ∙ ap events_in (sym (texts_at lines i d below)) in
    ap (λ es. after_events es (events_in (texts (drop (i + 1) lines)))) same ∙ ap (after_events before) step ∙ so_far

after_pushed : (before : List Event) (event : Event) (read : Result (List Event) Lines) → after_events (before ++ event ∷ []) read ≡ after_events before (after_events (event ∷ []) read)
after_pushed before event (Ok events) = ap (λ es. Ok es) (append_assoc before (event ∷ []) events)
after_pushed before event (Err rest) = refl

events_here : (lines : Slices) (i : ℕ) (d : Bor (List ℕ)) → i < length lines → is_passed_over (get_or lines i d).now ≡ false
    → events_in (texts (drop i lines))
    ≡ with_event (event_in (get_or lines i d).now) (get_or lines i d).now (texts (drop (i + 1) lines)) (events_in (texts (drop (i + 1) lines)))
events_here lines i d below is_read = ap events_in (texts_at lines i d below) ∙ events_in-read (get_or lines i d).now (texts (drop (i + 1) lines)) is_read

pub events_more : (lines : Slices) (i : ℕ) (d : Bor (List ℕ)) (before after : List Event) (event : Event) (all : Result (List Event) Lines) → i < length lines
    → is_passed_over (get_or lines i d).now ≡ false → event_in (get_or lines i d).now ≡ Some event → after ≡ before ++ event ∷ []
    → after_events before (events_in (texts (drop i lines))) ≡ all → after_events after (events_in (texts (drop (i + 1) lines))) ≡ all
events_more lines i d before after event all below is_read found more so_far =
    let rest = texts (drop (i + 1) lines) in
    let step = events_here lines i d below is_read ∙ ap (λ o. with_event o (get_or lines i d).now rest (events_in rest)) found in
    ap (λ es. after_events es (events_in rest)) more ∙ after_pushed before event (events_in rest) ∙ ap (after_events before) (sym step) ∙ so_far

pub events_bad : (lines rest : Slices) (i : ℕ) (d : Bor (List ℕ)) (before : List Event) (all : Result (List Event) Lines) → i < length lines
    → is_passed_over (get_or lines i d).now ≡ false → event_in (get_or lines i d).now ≡ None → rest ≡ drop i lines
    → after_events before (events_in (texts (drop i lines))) ≡ all → all ≡ Err (texts rest)
events_bad lines rest i d before all below is_read none is so_far =
    let others = texts (drop (i + 1) lines) in
    let step = events_here lines i d below is_read ∙ ap (λ o. with_event o (get_or lines i d).now others (events_in others)) none in
    sym so_far ∙ ap (after_events before) step ∙ ap (λ ls. Err ls) (sym (texts_at lines i d below) ∙ ap texts (sym is))

pub events_end : (lines : Slices) (i : ℕ) (before : List Event) (all : Result (List Event) Lines) → length lines ≤ i
    → after_events before (events_in (texts (drop i lines))) ≡ all → all ≡ Ok before
unfolding events_in
events_end lines i before all end so_far =
    sym so_far ∙ at_drop_all (λ ls. after_events before (events_in (texts ls))) lines i end ∙ ap (λ es. Ok es) (append-nil before)

-- The lines before a place spell some events, and with those of the lines from it on they are all.
pub record SomeBefore (lines : Slices) (i : ℕ) (all : Result (List Event) Lines) : Type 0 where
  pub before : List Event
  pub so_far : after_events before (events_in (texts (drop i lines))) ≡ all

after_none : (read : Result (List Event) Lines) → after_events [] read ≡ read
after_none (Ok events) = refl
after_none (Err rest) = refl

pub none_before : (lines : Slices) → SomeBefore lines 0 (events_in (texts lines))
none_before lines = record { before = []; so_far = after_none (events_in (texts lines)) }

-- a line that is passed over, or one that spells an event
line_is : {P : Type 0} (line : List ℕ) (passed : Bool) (event : Option Event) → is_passed_over line ≡ passed → event_in line ≡ event → IsTrue (passed || is_some event)
    → (is_passed_over line ≡ true → P) → ((e : Event) → is_passed_over line ≡ false → event_in line ≡ Some e → P) → P
line_is line true event passed found known over spells = over passed
line_is line false (Some e) passed found known over spells = spells e passed found
line_is line false None passed found known over spells = absurd cc

pub one_line_more : (lines : Slices) (i : ℕ) (d : Bor (List ℕ)) (all : Result (List Event) Lines) → i < length lines → IsTrue (is_line_of_event (get_or lines i d).now)
    → SomeBefore lines i all → SomeBefore lines (i + 1) all
one_line_more lines i d all below known some =
    line_is (get_or lines i d).now _ _ refl refl known
    (λ passed. record { before = some.before; so_far = events_passed lines i d some.before some.before all below passed refl some.so_far })
    (λ event is_read found. record {
      before = some.before ++ event ∷ [];
      so_far = events_more lines i d some.before (some.before ++ event ∷ []) event all below is_read found refl some.so_far;
    })

no_line_of : {P : Type 0} (line : List ℕ) (passed : Bool) (event : Option Event) → is_passed_over line ≡ passed → event_in line ≡ event → (passed || is_some event) ≡ false
    → (is_passed_over line ≡ false → event_in line ≡ None → P) → P
no_line_of line true event passed found known next = absurd cc
no_line_of line false (Some e) passed found known next = absurd cc
no_line_of line false None passed found known next = next passed found

pub bad_line : (lines rest : Slices) (i : ℕ) (d : Bor (List ℕ)) (all : Result (List Event) Lines) → i < length lines → is_line_of_event (get_or lines i d).now ≡ false → rest ≡ drop i lines
    → SomeBefore lines i all → all ≡ Err (texts rest)
bad_line lines rest i d all below bad is some =
    no_line_of (get_or lines i d).now _ _ refl refl bad
    (λ is_read none. events_bad lines rest i d some.before all below is_read none is some.so_far)

-- Some events first, and then those of the lines that are left.

pub rest_is_read : (first : List Event) (read all : Result (List Event) Lines) → after_events first read ≡ all → IsOk all → IsOk read
rest_is_read first (Ok events) all same ok = refl
rest_is_read first (Err rest) all same ok = subst IsOk (sym same) ok

pub parts_are_all : (first : List Event) (read all : Result (List Event) Lines) → after_events first read ≡ all → IsOk all → read_events all ≡ first ++ read_events read
parts_are_all first (Ok events) all same ok = ap read_events (sym same)
parts_are_all first (Err rest) all same ok = absurd (let failed : IsOk (after_events first (Err rest)) = subst IsOk (sym same) ok in cc)

pub no_line : (rest : Slices) → length rest ≡ 0 → events_in (texts rest) ≡ Ok []
unfolding events_in
no_line [] none = refl
no_line (line ∷ rest) none = absurd cc

pub all_taken : (first : List Event) (rest : Slices) (all : Result (List Event) Lines) → after_events first (events_in (texts rest)) ≡ all → IsOk all → length rest ≡ 0
    → first ≡ read_events all
all_taken first rest all same ok none =
    sym (parts_are_all first (events_in (texts rest)) all same ok ∙ ap (λ r. first ++ read_events r) (no_line rest none) ∙ append-nil first)

pub none_taken : (first : List Event) (rest : Slices) (all : Result (List Event) Lines) → after_events first (events_in (texts rest)) ≡ all → IsOk all
    → (length first ≡ 0 → length rest ≡ 0) → first ≡ [] → read_events all ≡ []
none_taken first rest all same ok left none = sym (all_taken first rest all same ok (left (ap length none))) ∙ none
