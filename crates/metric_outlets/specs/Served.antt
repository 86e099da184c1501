-- The reader that an output is made for.
use Rattle.std.specs.Prelude.{ℕ, Bool, ◌&&◌, ◌==◌, List, Result, Ok, Err, length, nat_lt}
use Rattle.metric_base.specs.Steps.{◌>>=◌, require, with_fault}
use Rattle.metric_contents.specs.declared.attributes.OwnedAttr.{OwnedAttr}
use Rattle.metric_exposition.specs.TargetFaults.{target_check}
use Rattle.metric_exposition.specs.declared.target.TargetFault.{TargetFault}
use Rattle.metric_exposition.specs.declared.target.TargetFault.TheVariants as target_fault
use Rattle.metric_exposure.specs.Exposures.{exposure_faults, first_of}
use Rattle.metric_exposure.specs.declared.fault.ExposureFault.{ExposureFault}
use Rattle.metric_exposure.specs.declared.fault.ExposureFault.TheVariants as exposure_fault
use Rattle.metric_exposure.specs.declared.outlet.Outlet.{Outlet}
use Rattle.metric_exposure.specs.declared.outlet.Outlet.TheVariants.{Prometheus}
use Rattle.metric_outlets.specs.declared.outlet_fault.OutletFault.{OutletFault}
use Rattle.metric_outlets.specs.declared.outlet_fault.OutletFault.TheVariants.{Exposed, Memory, Target, UnknownReader}
use Rattle.metric_outlets.specs.declared.served.Served.{Served}
use Rattle.metric_plan.specs.Plans.{PlanValue, print_of}

-- # whose batches an output takes (profile) [is_served, exposed, page_check]
-- Those of the reader of the plan that it was made for, which the plan has, and of whose streams
-- nothing would be lost.
abbrev pub is_served : Served → ℕ → ℕ → Bool
is_served served plan reader = (plan == served.plan) && (reader == served.reader)

abbrev pub served_of : PlanValue → ℕ → Served
served_of plan reader = record { plan = print_of plan; reader = reader }

-- what a fault of a reader's streams, or of a resource, is told as
abbrev pub told_exposed : ExposureFault → OutletFault
told_exposed exposure_fault.Memory = Memory
told_exposed fault = Exposed fault

abbrev pub told_target : TargetFault → OutletFault
told_target target_fault.Memory = Memory
told_target fault = Target fault

-- whether the plan has the reader
abbrev pub known : PlanValue → ℕ → Result (Unit {0}) OutletFault
known plan reader = require (nat_lt reader (length plan.config.readers)) UnknownReader

-- and the first fault of its streams in an output
abbrev pub exposed : Outlet → PlanValue → ℕ → Result (Unit {0}) OutletFault
exposed outlet plan reader =
    known plan reader >>= λ _. with_fault told_exposed
    (first_of (exposure_faults outlet plan.facts.contents plan.streams reader))

-- and then that of the resource in a page
abbrev pub page_check : PlanValue → ℕ → List OwnedAttr → Result (Unit {0}) OutletFault
page_check plan reader resource =
    exposed Prometheus plan reader >>= λ _. with_fault told_target (target_check resource)

-- requests of OTLP, as contracts see what they are made for and with
pub record OtlpValue : Type 0 where
  pub served : Served
  pub resource : List OwnedAttr
