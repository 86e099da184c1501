-- Attributes that are bound to an instrument.
use Rattle.std.specs.Prelude.{ℕ, ◌==◌, List, Result, Ok}
use Rattle.metric_base.specs.Steps.{◌>>=◌, require}
use Rattle.metric_contents.specs.declared.refusal.Refusal.{Refusal}
use Rattle.metric_contents.specs.declared.refusal.Refusal.TheVariants.{Stranger}
use Rattle.metric_contents.specs.Encoding.{Given, encode_of}
use Rattle.metric_plan.specs.Plans.{PlanValue, print_of}
use Rattle.metric_seat.specs.declared.keys.Measurement.{Measurement}

-- the number of an instrument, in a plan of this fingerprint
pub record HandleValue : Type 0 where
  pub plan : ℕ
  pub number : ℕ

-- the number of an instrument, in a plan of this fingerprint, and a set key
pub record BoundValue : Type 0 where
  pub plan : ℕ
  pub instrument : ℕ
  pub set : List ℕ

-- the number of an instrument, in a plan of this fingerprint, and recordings of set keys on it
pub record BoundListValue : Type 0 where
  pub plan : ℕ
  pub instrument : ℕ
  pub all : List Measurement

-- # bound attributes (profile) [number_in, bound_of]
-- An instrument's number with the set key that they name and the plan's fingerprint, or their first
-- refusal: a handle of another plan is a stranger.
abbrev pub number_in : PlanValue → HandleValue → Result ℕ Refusal
number_in plan handle = require (handle.plan == print_of plan) Stranger >>= λ _. Ok handle.number

-- what attributes are bound to on a handle's instrument of a plan, or their first refusal
abbrev pub bound_of : PlanValue → HandleValue → List Given → Result BoundValue Refusal
bound_of plan handle attrs =
    number_in plan handle >>= λ number.
    encode_of plan.facts.contents.instruments number attrs >>= λ set.
    Ok (record { plan = handle.plan; instrument = number; set = set })
