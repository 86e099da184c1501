-- The replies to events, if memory does not run out, are those of a run.
use Rattle.std.specs.Prelude.{◌≡◌, ℕ, ℤ, Bool, true, false, not, ◌||◌, ◌+◌, ◌-◌, List, [], ◌∷◌}
use Rattle.std.specs.Prelude.{Option, Some, None, Result, Ok, Err, length, map, nat_le, nat_lt}
use Rattle.std.specs.Prelude.{slice_get, slice_index}
use Rattle.std.proofs.Common.{refl, ap, ◌∙◌}
use Rattle.std.specs.List.{list_all, list_any}
use Rattle.metric_base.specs.Steps.{◌>>=◌, require, require_some}
use Rattle.metric_combinations.specs.Combinations.{permits}
use Rattle.metric_contents.specs.Attributes.{given_by_owned}
use Rattle.metric_contents.specs.Encoding.{Given, allowed_set, encode_of, has_declared_value}
use Rattle.metric_contents.specs.Encoding.{has_repeated_key, is_complete, is_declared, permitted}
use Rattle.metric_contents.specs.Encoding.{set_key, set_of}
use Rattle.metric_contents.specs.declared.contents.Instrument.{Instrument}
use Rattle.metric_contents.specs.declared.contents.Key.{Key}
use Rattle.metric_contents.specs.declared.refusal.Refusal.{Refusal}
use Rattle.metric_contents.specs.declared.refusal.Refusal.TheVariants.{
  Budget,
  Closed,
  Combination,
  DuplicateKey,
  MissingKey,
  NoSpare,
  SumRange,
  UnknownInstrument,
  UnknownKey,
  UnknownReader,
  UnknownRecorder,
  UnknownValue,
  ValueRange,
}
use Rattle.metric_facts.specs.declared.facts.FactsFields.{FactsFields as Facts}
use Rattle.metric_facts.specs.Facts.{RunFacts, in_bounds}
use Rattle.metric_history.specs.Answers.{Past, batch, closing, collected, granting, recorded, spent}
use Rattle.metric_history.specs.Encoded.{encoded}
use Rattle.metric_history.specs.History.{History, answered, told_of}
use Rattle.metric_history.specs.Legal.{AllLegal, Legal, LegalClose, LegalCollect, LegalGrant}
use Rattle.metric_history.specs.Legal.{LegalRecord, close, collection, grant, recording}
use Rattle.metric_history.specs.Windows.{fits_all}
use Rattle.metric_history.specs.declared.batch.Batch.{Batch}
use Rattle.metric_history.specs.declared.entry.Entry.{Entry}
use Rattle.metric_history.specs.declared.event.Event.{Event}
use Rattle.metric_history.specs.declared.event.Event.TheVariants.{Record, Collect, Close, Grant}
use Rattle.metric_history.specs.declared.event.Reply.TheVariants.{Refused}
use Rattle.metric_plan.specs.Plans.{PlanValue}
use Rattle.metric_kit_commands.specs.Replies.{is_want_of_memory}
use Rattle.metric_kit_commands.specs.Runs.{IsRun, close_reply, collect_reply, due_replies, due_reply}
use Rattle.metric_kit_commands.specs.Runs.{grant_reply, record_reply}

abbrev pub is_refused_memory : {X : Type 0} → Result X Refusal → Bool
is_refused_memory (Ok x) = false
is_refused_memory (Err refusal) = is_want_of_memory (Refused refusal)

-- what is answered is not out of memory
pub record IsRemembered {X : Type 0} (r : Result X Refusal) : Type 0 where
  pub known : is_refused_memory r ≡ false

one_step : {X : Type 0} (b : Bool) (refusal : Refusal) (x : X)
    → is_want_of_memory (Refused refusal) ≡ false → IsRemembered (require b refusal >>= λ _. Ok x)
one_step true refusal x other = record { known = refl }
one_step false refusal x other = record { known = other }

set_steps : (a b c d : Bool) (set : List ℕ)
    → IsRemembered (require a DuplicateKey >>= λ _. require b UnknownKey >>= λ _.
    require c UnknownValue >>= λ _. require d MissingKey >>= λ _. Ok set)
set_steps false b c d set = record { known = refl }
set_steps true false c d set = record { known = refl }
set_steps true true false d set = record { known = refl }
set_steps true true true d set = one_step d MissingKey set refl

set_remembered : (keys : List Key) (attrs : List Given) → IsRemembered (set_of keys attrs)
unfolding set_of
set_remembered keys attrs =
    set_steps (not (has_repeated_key attrs)) (list_all (is_declared keys) attrs)
    (list_all (has_declared_value keys) attrs) (list_all (is_complete attrs) keys)
    (set_key keys attrs)

permitted_remembered : (allowed : Option (List (List ℕ))) (set : Result (List ℕ) Refusal)
    → IsRemembered set → IsRemembered (set >>= permitted allowed)
permitted_remembered allowed (Ok set) known = one_step (permits allowed set) Combination set refl
permitted_remembered allowed (Err refusal) known = record { known = known.known }

allowed_remembered : (instrument : Instrument) (attrs : List Given)
    → IsRemembered (allowed_set instrument attrs)
unfolding allowed_set
allowed_remembered instrument attrs =
    permitted_remembered instrument.allowed (set_of instrument.keys attrs)
    (set_remembered instrument.keys attrs)

set_known : (own : Option Instrument) (attrs : List Given) → IsRemembered
    (require_some own UnknownInstrument >>= λ instrument. allowed_set instrument attrs)
set_known None attrs = record { known = refl }
set_known (Some instrument) attrs = allowed_remembered instrument attrs

encode_remembered : (instruments : List Instrument) (number : ℕ) (attrs : List Given)
    → IsRemembered (encode_of instruments number attrs)
unfolding encode_of
encode_remembered instruments number attrs = set_known (slice_get instruments number) attrs

record_steps : (a : Bool) (set : Result (List ℕ) Refusal) (b c d : Bool) (fits : List ℕ → Bool)
    (entry : List ℕ → Entry) → IsRemembered set
    → IsRemembered (require a UnknownRecorder >>= λ _. set >>= λ s. require b ValueRange >>= λ _.
    require c Closed >>= λ _. require d Budget >>= λ _.
    require (fits s) SumRange >>= λ _. Ok (entry s))
record_steps false set b c d fits entry known = record { known = refl }
record_steps true (Err refusal) b c d fits entry known = record { known = known.known }
record_steps true (Ok s) false c d fits entry known = record { known = refl }
record_steps true (Ok s) true false d fits entry known = record { known = refl }
record_steps true (Ok s) true true false fits entry known = record { known = refl }
record_steps true (Ok s) true true true fits entry known = one_step (fits s) SumRange (entry s) refl

recorded_remembered : (own : Option Facts) (told : Past) (set : Result (List ℕ) Refusal)
    (recorder : ℕ) (value : ℤ) → IsRemembered set
    → IsRemembered
    (require_some own UnknownInstrument >>= λ facts. recorded facts told set recorder value)
recorded_remembered None told set recorder value known = record { known = refl }
recorded_remembered (Some facts) told set recorder value known =
    let entry : List ℕ → Entry = λ s. record { recorder = recorder; set = s; value = value } in
    record_steps (nat_lt recorder (length facts.budgets)) set (in_bounds facts value)
    (not told.closed) (nat_lt (spent told.accepted recorder)
    (slice_index facts.budgets recorder + told.granted recorder))
    (λ s. fits_all facts told.mark told.accepted (entry s)) entry known

collected_remembered : (own : Option Facts) (start : ℕ) (told : Past) (reader now : ℕ)
    → IsRemembered
    (require_some own UnknownInstrument >>= λ facts. collected facts start told reader now)
collected_remembered None start told reader now = record { known = refl }
collected_remembered (Some facts) start told reader now =
    one_step (nat_lt reader (length facts.delta)) UnknownReader
    (batch facts start told reader now) refl

closed_remembered : (b : Bool) → IsRemembered (require b Closed)
closed_remembered true = record { known = refl }
closed_remembered false = record { known = refl }

closing_remembered : (own : Option Facts) (told : Past)
    → IsRemembered (require_some own UnknownInstrument >>= λ _. closing told)
closing_remembered None told = record { known = refl }
closing_remembered (Some facts) told = closed_remembered (not told.closed)

grant_steps : (a b c : Bool)
    → IsRemembered (require a UnknownRecorder >>= λ _. require b Closed >>= λ _. require c NoSpare)
grant_steps false b c = record { known = refl }
grant_steps true false c = record { known = refl }
grant_steps true true false = record { known = refl }
grant_steps true true true = record { known = refl }

granting_remembered : (own : Option Facts) (told : Past) (recorder amount : ℕ)
    → IsRemembered
    (require_some own UnknownInstrument >>= λ facts. granting facts told recorder amount)
granting_remembered None told recorder amount = record { known = refl }
granting_remembered (Some facts) told recorder amount =
    grant_steps (nat_lt recorder (length facts.budgets)) (not told.closed)
    (nat_le amount (facts.spare - told.handed))

record_kept : (due : Result Entry Refusal) → IsRemembered due
    → is_want_of_memory (record_reply due) ≡ false
record_kept (Ok entry) known = refl
record_kept (Err refusal) known = known.known

collect_kept : (due : Result Batch Refusal) → IsRemembered due
    → is_want_of_memory (collect_reply due) ≡ false
collect_kept (Ok batch) known = refl
collect_kept (Err refusal) known = known.known

close_kept : (due : Result (Unit {0}) Refusal) → IsRemembered due
    → is_want_of_memory (close_reply due) ≡ false
close_kept (Ok done) known = refl
close_kept (Err refusal) known = known.known

grant_kept : (due : Result (Unit {0}) Refusal) → IsRemembered due
    → is_want_of_memory (grant_reply due) ≡ false
grant_kept (Ok done) known = refl
grant_kept (Err refusal) known = known.known

-- no reply is out of memory
due_kept : (facts : RunFacts) (start : ℕ) (h : History) (event : Event)
    → is_want_of_memory (due_reply facts start h event) ≡ false
due_kept facts start h (Record recorder instrument attrs value) =
    record_kept (recording facts start h recorder instrument attrs value)
    (recorded_remembered (slice_get facts.instruments instrument) (told_of facts start h instrument)
    (encoded facts.contents instrument attrs) recorder value
    (encode_remembered facts.contents.instruments instrument (map given_by_owned attrs)))
due_kept facts start h (Collect reader instrument now) =
    collect_kept (collection facts start h reader instrument now)
    (collected_remembered (slice_get facts.instruments instrument) start
    (told_of facts start h instrument) reader now)
due_kept facts start h (Close instrument) =
    close_kept (close facts start h instrument)
    (closing_remembered (slice_get facts.instruments instrument) (told_of facts start h instrument))
due_kept facts start h (Grant recorder instrument amount) =
    grant_kept (grant facts start h recorder instrument amount)
    (granting_remembered (slice_get facts.instruments instrument)
    (told_of facts start h instrument) recorder amount)

record_legal : (due : Result Entry Refusal) → LegalRecord due (record_reply due)
record_legal (Ok entry) = tt
record_legal (Err refusal) = refl

collect_legal : (due : Result Batch Refusal) → LegalCollect due (collect_reply due)
collect_legal (Ok batch) = refl
collect_legal (Err refusal) = refl

close_legal : (due : Result (Unit {0}) Refusal) → LegalClose due (close_reply due)
close_legal (Ok done) = tt
close_legal (Err refusal) = refl

grant_legal : (due : Result (Unit {0}) Refusal) → LegalGrant due (grant_reply due)
grant_legal (Ok done) = tt
grant_legal (Err refusal) = refl

-- each reply is legal
due_legal : (facts : RunFacts) (start : ℕ) (h : History) (event : Event)
    → Legal facts start h event (due_reply facts start h event)
due_legal facts start h (Record recorder instrument attrs value) =
    record_legal (recording facts start h recorder instrument attrs value)
due_legal facts start h (Collect reader instrument now) =
    collect_legal (collection facts start h reader instrument now)
due_legal facts start h (Close instrument) = close_legal (close facts start h instrument)
due_legal facts start h (Grant recorder instrument amount) =
    grant_legal (grant facts start h recorder instrument amount)

-- so all are
pub all_due_legal : (facts : RunFacts) (start : ℕ) (h : History) (events : List Event)
    → AllLegal facts start h events (due_replies facts start h events)
unfolding due_replies
all_due_legal facts start h [] = tt
all_due_legal facts start h (event ∷ events) = (
  due_legal facts start h event,
  all_due_legal facts start (answered event (due_reply facts start h event) ∷ h) events,
)

-- and none is out of memory
pub all_due_kept : (facts : RunFacts) (start : ℕ) (h : History) (events : List Event)
    → list_any is_want_of_memory (due_replies facts start h events) ≡ false
unfolding due_replies
all_due_kept facts start h [] = refl
all_due_kept facts start h (event ∷ events) =
    ap (λ (b : Bool). b || list_any is_want_of_memory
    (due_replies facts start (answered event (due_reply facts start h event) ∷ h) events))
    (due_kept facts start h event)
    ∙ all_due_kept facts start (answered event (due_reply facts start h event) ∷ h) events

-- they are those of a run
pub is_due_run : (plan : PlanValue) (start : ℕ) (events : List Event)
    → IsRun plan start events (due_replies plan.facts start [] events)
is_due_run plan start events = record {
  legal = all_due_legal plan.facts start [] events;
  remembered = all_due_kept plan.facts start [] events;
}
