-- What a provider and a seat answer a grant.
use Rattle.std.specs.Prelude.{◌≡◌, ◌<◌, ◌≤◌, ℕ, true, false, Option, Some, None, Result, Ok, Err}
use Rattle.std.specs.Prelude.{length, slice_get}
use Rattle.metric_contents.specs.declared.refusal.Refusal.{Refusal}
use Rattle.metric_contents.specs.declared.refusal.Refusal.TheVariants.{Stranger, UnknownInstrument}
use Rattle.metric_contents.specs.declared.refusal.Refusal.TheVariants.{UnknownRecorder, Closed}
use Rattle.metric_contents.specs.declared.refusal.Refusal.TheVariants.{NoSpare}
use Rattle.metric_facts.specs.declared.facts.Facts.{Facts}
use Rattle.metric_seat.specs.Seats.{ProviderValue, RecorderValue, is_recorder_of}

-- A recorder of the instrument was granted so many recordings, which are no more than its spare.
pub record IsGranted (own : Facts) (recorder amount : ℕ) : Type 0 where
  pub known : recorder < length own.budgets
  pub spared : amount ≤ own.spare

-- A recorder of the instrument asked for some recordings, of which fewer are left.
pub record IsNotSpared (own : Facts) (recorder amount : ℕ) : Type 0 where
  pub known : recorder < length own.budgets
  pub some : 0 < amount

-- # answer to a grant by a provider (profile) [AnswersGrant, AnswersAsking]
-- The unknown instrument, else the unknown recorder, exactly; else made, of no more than the spare,
-- or `Closed`, or `NoSpare` where something was asked for. A seat asks for its own recorder, unless
-- it is a stranger.
abbrev pub AnswersGrant : Option Facts → ℕ → ℕ → Result (Unit {0}) Refusal → Type 0
AnswersGrant None recorder amount (Ok done) = ⊥
AnswersGrant None recorder amount (Err refusal) = refusal ≡ UnknownInstrument
AnswersGrant (Some own) recorder amount (Ok done) = IsGranted own recorder amount
AnswersGrant (Some own) recorder amount (Err UnknownRecorder) = length own.budgets ≤ recorder
AnswersGrant (Some own) recorder amount (Err Closed) = recorder < length own.budgets
AnswersGrant (Some own) recorder amount (Err NoSpare) = IsNotSpared own recorder amount
AnswersGrant (Some own) recorder amount (Err other) = ⊥

-- what a seat answers that asks for itself: `Stranger` exactly where it is none of the
-- provider's, else what the provider answers
abbrev pub AnswersAsking : ProviderValue → RecorderValue → ℕ → ℕ
    → Result (Unit {0}) Refusal → Type 0
AnswersAsking p seat instrument amount (Err Stranger) = is_recorder_of p seat ≡ false
AnswersAsking p seat instrument amount result =
    (is_recorder_of p seat ≡ true)
    × AnswersGrant (slice_get p.plan.facts.instruments instrument) seat.number amount result

-- # grant handed on (profile)
-- A grant to a recorder of an instrument that the plan has was handed on to what holds it.
abbrev pub HandsGrant : {H : Type 0} → (H → H → Facts → ℕ → ℕ → Result (Unit {0}) Refusal → Type 0)
    → Option Facts → ℕ → ℕ → H → H → Result (Unit {0}) Refusal → Type 0
HandsGrant {H} grants None recorder amount old new result = new ≡ old
HandsGrant {H} grants (Some own) recorder amount old new (Err UnknownRecorder) = new ≡ old
HandsGrant {H} grants (Some own) recorder amount old new result =
    grants old new own recorder amount result
