-- How often the instruments of a plan may be recorded, as a host is told.
use Rattle.std.specs.Prelude.{◌≡◌, ◌-◌, ◌^◌, ℕ, List, map, min}
use Rattle.std.specs.List.{AllZip}
use Rattle.metric_resolve.specs.Applying.{all_instruments}
use Rattle.metric_resolve.specs.Resolved.{streams_of}
use Rattle.metric_lint.specs.Headrooms.{IsHeadroom}
use Rattle.metric_lint.specs.declared.headroom.Headroom.{Headroom}
use Rattle.metric_lint.specs.declared.limit.Limit.{Limit}
use Rattle.metric_lint.specs.declared.limit.Limit.TheVariants.{Count, Amount, SumLow, SumHigh}
use Rattle.metric_lint.specs.declared.limit.Limit.TheVariants.{Series}
use Rattle.metric_plan.specs.Plans.{PlanValue}
use Rattle.wormweekly_c.specs.Texts.{AnswersAll}
use Rattle.wormweekly_c.specs.declared.headrooms.HeadroomOut.{HeadroomOut}

-- the number of what keeps an instrument from being recorded more often
abbrev pub limit_number : Limit → ℕ
limit_number Count = 0
limit_number Amount = 1
limit_number SumLow = 2
limit_number SumHigh = 3
limit_number (Series stream) = 4

-- the number of its stream, where it is one
abbrev pub stream_of : Limit → ℕ
stream_of Count = 0
stream_of Amount = 0
stream_of SumLow = 0
stream_of SumHigh = 0
stream_of (Series stream) = stream

-- a headroom in the words of a host
abbrev pub written_headroom : Headroom → HeadroomOut
written_headroom headroom = record {
  declared = min headroom.total (2 ^ 64 - 1);
  most = headroom.most;
  limit = limit_number headroom.limit;
  stream = stream_of headroom.limit;
}

-- A list has the headroom of each instrument of the plan, in order.
pub record AreHeadrooms (plan : PlanValue) (list : List HeadroomOut) : Type 0 where
  pub headrooms : List Headroom
  pub are : AllZip (IsHeadroom plan.facts.contents (streams_of plan.facts.contents plan.config))
      (all_instruments plan.facts.contents) headrooms
  pub written : list ≡ map written_headroom headrooms

-- such a list is written where there is room for all of it
pub record AnswersHeadrooms (plan : PlanValue) (before after : List HeadroomOut) (code : ℕ) : Type 0
  where
    pub list : List HeadroomOut
    pub are : AreHeadrooms plan list
    pub answer : AnswersAll list before after code
