-- A plan has few readers.
use Rattle.std.proofs.Common.{◌≡◌, ℕ, ◌≤◌, Some, length, ap, arith}
use Rattle.std.specs.Prelude.{slice_get}
use Rattle.std.proofs.lemmas.List.{length-map}
use Rattle.metric_facts.specs.declared.facts.Facts.{Facts}
use Rattle.metric_facts.specs.Facts.{is_delta_reader}
use Rattle.metric_plan.specs.PlanFacts.{plan_facts_at}
use Rattle.metric_plan.specs.Plans.{IsPlan, PlanValue}

pub few-readers : (plan : PlanValue) (number : ℕ) (own : Facts) → IsPlan plan → slice_get plan.facts.instruments number ≡ Some own → length plan.config.readers ≤ 16
    → length own.delta ≤ 16
few-readers plan number own p found few =
    let here = plan_facts_at plan number own p found in
    omega (arith, few, ap (λ (f : Facts). length f.delta) here.is, length-map plan.config.readers (is_delta_reader here.instrument.kind))
