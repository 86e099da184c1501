-- Which replies an event may get after a history.
use Rattle.std.specs.Prelude.{◌≡◌, ℕ, ℤ, List, [], ◌∷◌, Result, Ok, Err, slice_get}
use Rattle.metric_base.specs.Steps.{◌>>=◌, require_some}
use Rattle.metric_contents.specs.declared.attributes.OwnedAttr.{OwnedAttr}
use Rattle.metric_contents.specs.declared.refusal.Refusal.{Refusal}
use Rattle.metric_contents.specs.declared.refusal.Refusal.TheVariants.{UnknownInstrument, Memory}
use Rattle.metric_history.specs.Encoded.{encoded}
use Rattle.metric_history.specs.declared.entry.Entry.{Entry}
use Rattle.metric_history.specs.declared.event.Event.{Event}
use Rattle.metric_history.specs.declared.event.Event.TheVariants.{Record, Collect, Close, Grant}
use Rattle.metric_history.specs.declared.event.Reply.{Reply}
use Rattle.metric_history.specs.declared.event.Reply.TheVariants.{Accepted, Collected, Done}
use Rattle.metric_history.specs.declared.event.Reply.TheVariants.{Granted, Refused}
use Rattle.metric_history.specs.declared.batch.Batch.{Batch}
use Rattle.metric_facts.specs.Facts.{RunFacts}
use Rattle.metric_history.specs.Answers.{recorded, collected, closing, granting}
use Rattle.metric_history.specs.History.{History, told_of}

-- the entry of a recording after a history, or the first refusal
abbrev pub recording : RunFacts → ℕ → History → ℕ → ℕ → List OwnedAttr → ℤ → Result Entry Refusal
recording facts start h recorder instrument attrs value =
    require_some (slice_get facts.instruments instrument) UnknownInstrument >>= λ own.
    recorded own (told_of facts start h instrument)
    (encoded facts.contents instrument attrs) recorder value

-- the batch of a collection after a history, or the first refusal
abbrev pub collection : RunFacts → ℕ → History → ℕ → ℕ → ℕ → Result Batch Refusal
collection facts start h reader instrument now =
    require_some (slice_get facts.instruments instrument) UnknownInstrument >>= λ own.
    collected own start (told_of facts start h instrument) reader now

-- a close after a history, or the first refusal
abbrev pub close : RunFacts → ℕ → History → ℕ → Result (Unit {0}) Refusal
close facts start h instrument =
    require_some (slice_get facts.instruments instrument) UnknownInstrument >>= λ own.
    closing (told_of facts start h instrument)

-- a grant after a history, or the first refusal
abbrev pub grant : RunFacts → ℕ → History → ℕ → ℕ → ℕ → Result (Unit {0}) Refusal
grant facts start h recorder instrument amount =
    require_some (slice_get facts.instruments instrument) UnknownInstrument >>= λ own.
    granting own (told_of facts start h instrument) recorder amount

-- Where nothing refuses a recording it is accepted, unless memory runs out; else the reply is the
-- refusal.
abbrev pub LegalRecord : Result Entry Refusal → Reply → Type 0
LegalRecord (Ok entry) Accepted = Unit {0}
LegalRecord (Ok entry) (Refused given) = given ≡ Memory
LegalRecord (Err refusal) (Refused given) = given ≡ refusal
LegalRecord _ _ = ⊥

abbrev pub LegalCollect : Result Batch Refusal → Reply → Type 0
LegalCollect (Ok b) (Collected given) = given ≡ b
LegalCollect (Ok b) (Refused given) = given ≡ Memory
LegalCollect (Err refusal) (Refused given) = given ≡ refusal
LegalCollect _ _ = ⊥

abbrev pub LegalClose : Result (Unit {0}) Refusal → Reply → Type 0
LegalClose (Ok done) Done = Unit {0}
LegalClose (Err refusal) (Refused given) = given ≡ refusal
LegalClose _ _ = ⊥

abbrev pub LegalGrant : Result (Unit {0}) Refusal → Reply → Type 0
LegalGrant (Ok done) Granted = Unit {0}
LegalGrant (Err refusal) (Refused given) = given ≡ refusal
LegalGrant _ _ = ⊥

-- # legal reply (profile) [Legal, AllLegal]
-- The refusal, where there is one; else Accepted, the batch, Done or Granted; out of memory only
-- for recordings and collections that nothing else refuses.
abbrev pub Legal : RunFacts → ℕ → History → Event → Reply → Type 0
Legal facts start h (Record recorder instrument attrs value) reply =
    LegalRecord (recording facts start h recorder instrument attrs value) reply
Legal facts start h (Collect reader instrument now) reply =
    LegalCollect (collection facts start h reader instrument now) reply
Legal facts start h (Close instrument) reply = LegalClose (close facts start h instrument) reply
Legal facts start h (Grant recorder instrument amount) reply =
    LegalGrant (grant facts start h recorder instrument amount) reply

-- one legal reply for each event, each judged after the events before it
abbrev pub AllLegal : RunFacts → ℕ → History → List Event → List Reply → Type 0
AllLegal facts start h [] [] = Unit {0}
AllLegal facts start h [] (reply ∷ replies) = ⊥
AllLegal facts start h (event ∷ events) [] = ⊥
AllLegal facts start h (event ∷ events) (reply ∷ replies) =
    Legal facts start h event reply
    × AllLegal facts start (record { event = event; reply = reply } ∷ h) events replies

-- the history after more events
abbrev pub grown : History → List Event → List Reply → History
grown h [] replies = h
grown h (event ∷ events) [] = h
grown h (event ∷ events) (reply ∷ replies) =
    grown (record { event = event; reply = reply } ∷ h) events replies

-- # legal history (profile)
-- Each reply is legal after those before it.
abbrev pub IsLegal : RunFacts → ℕ → History → Type 0
IsLegal facts start [] = Unit {0}
IsLegal facts start (a ∷ older) =
    IsLegal facts start older × Legal facts start older a.event a.reply

-- a run with legal replies keeps a history legal
abbrev pub KeepsLegal : Type 0
KeepsLegal =
    (facts : RunFacts) (start : ℕ) (h : History) (events : List Event) (replies : List Reply)
    → IsLegal facts start h
    → AllLegal facts start h events replies → IsLegal facts start (grown h events replies)
