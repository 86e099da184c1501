-- What a grant on an instrument that a host holds is answered.
use Rattle.std.specs.Prelude.{◌≡◌, ◌<◌, ◌≤◌, ℕ, Result, Ok, Err, length}
use Rattle.metric_contents.specs.declared.refusal.Refusal.{Refusal}
use Rattle.metric_contents.specs.declared.refusal.Refusal.TheVariants.{UnknownRecorder}
use Rattle.metric_core.specs.CellAnswers.{AnswersGrant, with_grant}
use Rattle.metric_hosted.specs.Hosts.{HostedValue}

-- # answer to a grant on a hosted instrument (profile) [AnswersGranting, with_granted]
-- The unknown recorder, else what the instrument answers; made, that instrument with the grant.
abbrev pub AnswersGranting : HostedValue → ℕ → ℕ → Result (Unit {0}) Refusal → Type 0
AnswersGranting h recorder amount (Err UnknownRecorder) = length h.cell.facts.budgets ≤ recorder
AnswersGranting h recorder amount result =
    (recorder < length h.cell.facts.budgets) × AnswersGrant h.cell amount result

-- the instrument of which a recorder was granted so many recordings
abbrev pub with_granted : HostedValue → ℕ → ℕ → HostedValue
with_granted h recorder amount = record h { cell = with_grant h.cell recorder amount }
