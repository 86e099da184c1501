-- Whether a reader's streams can stand in a page for Prometheus.
use Rattle.std.specs.Prelude.{◌≡◌, ℕ, List, Result, Ok, Err}
use Rattle.metric_exposure.specs.Exposures.{exposure_faults, first_of}
use Rattle.metric_exposure.specs.Faults.{exposure_fault_text}
use Rattle.metric_exposure.specs.declared.fault.ExposureFault.{ExposureFault}
use Rattle.metric_exposure.specs.declared.outlet.Outlet.TheVariants.{Prometheus}
use Rattle.metric_hosted.specs.declared.planned.HostedReader.{HostedReader}
use Rattle.wormweekly_c.specs.Texts.{IsFront}

-- # exposed (Prometheus) [exposed, AnswersExposed]
-- The first fault that keeps a reader's streams from a page, told as far as there is room.
abbrev pub exposed : HostedReader → Result (Unit {0}) ExposureFault
exposed own =
    first_of
    (exposure_faults Prometheus own.plan.facts.contents own.plan.streams own.seat.number)

-- they can, or the fault is told
abbrev pub AnswersExposed : Result (Unit {0}) ExposureFault → List ℕ → List ℕ → ℕ → ℕ → Type 0
AnswersExposed (Ok done) before after count code = code ≡ 0
AnswersExposed (Err fault) before after count code =
    (code ≡ 103) × IsFront (exposure_fault_text fault) before after count
