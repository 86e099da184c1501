-- What holds of every legal history of a safe plan.
use Rattle.std.specs.Prelude.{◌≡◌, ◌≢◌, ℕ, ℤ, ◌+◌, ◌<◌, ◌≤◌, ◌⊎◌, Bool, true, false, All, Contains}
use Rattle.std.specs.Prelude.{IsSome, List, [], ◌∷◌, ◌++◌, Ok, Err, Some, None, length, map}
use Rattle.std.specs.Prelude.{slice_get, slice_index}
use Rattle.metric_contents.specs.declared.attributes.OwnedAttr.{OwnedAttr}
use Rattle.metric_contents.specs.declared.contents.Contents.{Contents}
use Rattle.metric_contents.specs.declared.contents.Instrument.{Instrument}
use Rattle.metric_contents.specs.declared.refusal.Refusal.TheVariants.{SumRange, Memory}
use Rattle.metric_views.specs.declared.stream.Stream.{Stream}
use Rattle.metric_resolve.specs.Laws.{identity_at}
use Rattle.metric_catalogue.specs.Sound.{IsSound}
use Rattle.metric_views.specs.declared.config.Config.{Config}
use Rattle.metric_resolve.specs.Resolved.{streams_of}
use Rattle.metric_bounds.specs.Safe.{AreDistinct, AreSafe, IsSafe}
use Rattle.metric_plan.specs.Plans.{PlanValue, RangesFit, plan_of, run_facts}
use Rattle.metric_history.specs.declared.batch.Point.{Point}
use Rattle.metric_history.specs.declared.batch.StreamPoints.{StreamPoints}
use Rattle.metric_history.specs.declared.event.Event.TheVariants.{Record}
use Rattle.metric_history.specs.declared.event.Reply.{Reply}
use Rattle.metric_history.specs.declared.event.Reply.TheVariants.{Accepted, Collected, Refused}
use Rattle.metric_facts.specs.declared.facts.Facts.{Facts}
use Rattle.metric_facts.specs.declared.facts.NumberedStream.{NumberedStream}
use Rattle.metric_history.specs.Answers.{Past, batch, covered, spent}
use Rattle.metric_history.specs.Encoded.{encoded}
use Rattle.metric_facts.specs.Facts.{RunFacts, in_bounds, key_facts}
use Rattle.metric_history.specs.History.{Answered, History, accepted, granted_of, is_closed}
use Rattle.metric_history.specs.History.{told_of}
use Rattle.metric_history.specs.Legal.{IsLegal, Legal, recording}
use Rattle.metric_history.specs.Series.{rows}
use Rattle.metric_safety.specs.SafeFacts.{IsSafeFacts, IsJournal}
use Rattle.metric_safety.specs.WindowBounds.{IsBounded, IsValueInRange}

-- The facts of a run are safe and of its catalogue, which declares at most 8 keys for each
-- instrument; the numbers of their streams are those of the streams, and no two of these have one
-- identity. Ranges are of 64-bit numbers.
pub record IsSafeRun (streams : List Stream) (facts : RunFacts) : Type 0 where
  pub safe : (number : ℕ) (own : Facts) → slice_get facts.instruments number ≡ Some own
      → IsSafeFacts own
  pub keys : (number : ℕ) (own : Facts) (instrument : Instrument)
      → slice_get facts.instruments number ≡ Some own
      → slice_get facts.contents.instruments number ≡ Some instrument
      → own.keys ≡ map key_facts instrument.keys
  pub allowed : (number : ℕ) (own : Facts) (instrument : Instrument)
      → slice_get facts.instruments number ≡ Some own
      → slice_get facts.contents.instruments number ≡ Some instrument
      → own.allowed ≡ instrument.allowed
  pub few_keys : (number : ℕ) (own : Facts) → slice_get facts.instruments number ≡ Some own
      → length own.keys ≤ 8
  pub numbers : (number : ℕ) (own : Facts) → slice_get facts.instruments number ≡ Some own
      → All (λ (s : NumberedStream). slice_get streams s.number ≡ Some s.stream) own.streams
  pub distinct : AreDistinct facts.contents streams
  pub ranges : RangesFit facts.instruments

-- what a reply reports of streams
abbrev pub reported_in : Reply → List StreamPoints
reported_in (Collected b) = b.streams
reported_in _ = []

-- what all batches of a history report
abbrev pub exported : History → List StreamPoints
exported [] = []
exported (a ∷ older) = reported_in a.reply ++ exported older

-- Each stream in a batch is one of the run, and two of them that differ in number differ in
-- identity.
pub record AreIdentified (contents : Contents) (streams : List Stream) (h : History) : Type 0 where
  pub known : All (λ (s : StreamPoints). s.stream < length streams) (exported h)
  pub distinct : (s other : StreamPoints) → Contains (exported h) s → Contains (exported h) other
      → s.stream ≢ other.stream
      → identity_at contents streams s.stream ≢ identity_at contents streams other.stream

-- The accepted recordings of an instrument are admitted, each recorder's are within its budget and
-- what it was granted, and no more than the spare was granted in all.
pub record KeepsBudgets (own : Facts) (told : Past) : Type 0 where
  pub admitted : IsJournal own told.accepted
  pub within : (recorder : ℕ)
      → spent told.accepted recorder ≤ slice_index own.budgets recorder + told.granted recorder
  pub handed : told.handed ≤ own.spare

-- Those of each instrument are after a history.
abbrev pub AllKeepBudgets : RunFacts → ℕ → History → Type 0
AllKeepBudgets facts start h =
    (number : ℕ) (own : Facts) → slice_get facts.instruments number ≡ Some own
    → KeepsBudgets own (told_of facts start h number)

-- Every window of every reader of an instrument is bounded after a history.
abbrev pub AreWindowsBounded : RunFacts → ℕ → History → Type 0
AreWindowsBounded facts start h =
    (number : ℕ) (own : Facts) → slice_get facts.instruments number ≡ Some own
    → All (λ (s : NumberedStream).
    IsBounded own s.stream (covered own (told_of facts start h number) s.stream.reader)) own.streams

-- No recording of a window that a batch covers is left over, and no batch has an overflow point.
pub record NothingOverflows (facts : RunFacts) (start : ℕ) (h : History) : Type 0 where
  pub no_rest : (number : ℕ) (own : Facts) → slice_get facts.instruments number ≡ Some own
      → All (λ (s : NumberedStream). rows s.stream
      (covered own (told_of facts start h number) s.stream.reader) None ≡ []) own.streams
  pub no_overflow : All
      (λ (s : StreamPoints). All (λ (p : Point). IsSome p.set) s.points) (exported h)

-- each number of each point is a 64-bit number
abbrev pub AreInRange : List StreamPoints → Type 0
AreInRange all =
    All (λ (s : StreamPoints). All (λ (p : Point). IsValueInRange p.value) s.points) all

-- Every number of every batch that was answered, or could be, is in range.
pub record NumbersFit (facts : RunFacts) (start : ℕ) (h : History) : Type 0 where
  pub answers : (number reader now : ℕ) (own : Facts)
      → slice_get facts.instruments number ≡ Some own
      → AreInRange (batch own start (told_of facts start h number) reader now).streams
  pub batches : AreInRange (exported h)

-- A recording is declared, of an open instrument, and within the budget of its
-- recorder and what it was granted.
pub record IsWithinBudget (facts : RunFacts) (h : History) (recorder number : ℕ)
    (attrs : List OwnedAttr) (value : ℤ) : Type 0 where
  pub own : Facts
  pub set : List ℕ
  pub known : slice_get facts.instruments number ≡ Some own
  pub by_recorder : recorder < length own.budgets
  pub named : encoded facts.contents number attrs ≡ Ok set
  pub ranged : in_bounds own value ≡ true
  pub is_open : is_closed h number ≡ false
  pub budgeted : spent (accepted facts h number) recorder
      < slice_index own.budgets recorder + granted_of h number recorder

-- No recording was or would be refused for its sums, so each declared one within its budget is
-- accepted, or memory runs out.
pub record NoSumRefuses (facts : RunFacts) (start : ℕ) (h : History) : Type 0 where
  pub never : All (λ (a : Answered). a.reply ≢ Refused SumRange) h
  pub next : (recorder number : ℕ) (attrs : List OwnedAttr) (value : ℤ)
      → recording facts start h recorder number attrs value ≢ Err SumRange
  pub accepts : (recorder number : ℕ) (attrs : List OwnedAttr) (value : ℤ) (reply : Reply)
      → IsWithinBudget facts h recorder number attrs value
      → Legal facts start h (Record recorder number attrs value) reply
      → (reply ≡ Accepted) ⊎ (reply ≡ Refused Memory)

-- It holds of every legal history of a safe run.
abbrev pub OfSafeRuns : (List Stream → RunFacts → ℕ → History → Type 0) → Type 0
OfSafeRuns P =
    (streams : List Stream) (facts : RunFacts) (start : ℕ) (h : History) → IsSafeRun streams facts
    → IsLegal facts start h → P streams facts start h

-- # safe plan, safe run (profile) [IsSafePlan, IsSafeRun]
-- A sound catalogue with the definition's streams and facts that are safe; the facts of its run.
pub record IsSafePlan (plan : PlanValue) : Type 0 where
  pub sound : IsSound plan.facts.contents
  pub streams : plan.streams ≡ streams_of plan.facts.contents plan.config
  pub facts : plan.facts
      ≡ run_facts plan.is_certified plan.by_product plan.facts.contents plan.config plan.streams
  pub safe : AreSafe plan.facts.contents plan.streams
  pub ranges : RangesFit plan.facts.instruments

-- such is the plan of a sound catalogue and a config that are safe, where ranges are of
-- 64-bit numbers, as each plan keeps
abbrev pub GivesSafePlan : Bool → List Bool → Contents → Config → Type 0
GivesSafePlan is_certified by_product contents config =
    IsSound contents → IsSafe contents config
    → RangesFit (plan_of is_certified by_product contents config).facts.instruments
    → IsSafePlan (plan_of is_certified by_product contents config)

-- # safe history (profile)
-- Exported streams differ in identity, windows are bounded, no series and no sum overflows, numbers
-- are in range.
pub record IsSafeHistory (plan : PlanValue) (start : ℕ) (h : History) : Type 0 where
  pub identified : AreIdentified plan.facts.contents plan.streams h
  pub bounded : AreWindowsBounded plan.facts start h
  pub overflow : NothingOverflows plan.facts start h
  pub sums : NoSumRefuses plan.facts start h
  pub numbers : NumbersFit plan.facts start h
