-- streams by product are within their limits, as a plan keeps
use Rattle.std.proofs.Common.{◌≡◌, ◌<◌, List, Some, length, get_or, sym, ap, ◌∙◌, arith}
use Rattle.std.specs.Prelude.{slice_get}
use Rattle.std.proofs.lemmas.Option.{slice_get-get_or}
use Rattle.metric_facts.specs.declared.facts.Facts.{Facts}
use Rattle.metric_plan.specs.PlanFacts.{plan_products}
use Rattle.metric_plan.specs.Plans.{PlanValue}
use Rattle.metric_plan.proofs.plan.Plan.facts.Goals as goal

pub returns-clause-products : goal.returns-clause-products
returns-clause-products c =
    let all : List Facts = c.self.inside.facts in
    let own : Facts = c.index-as_slice-instrument.result in
    let number = c.args.instrument in
    let within : number < length all = omega (arith, c.requires, ap (λ (p : PlanValue). length p.facts.instruments) c.self.view_is) in
    let at : slice_get all number ≡ Some own =
    slice_get-get_or all number own within
    ∙ ap (λ (f : Facts). Some f) (ap (λ (fs : List Facts). get_or fs number own) (sym c.as_slice.ensures) ∙ sym c.index-as_slice-instrument.is) in
    plan_products _ number own c.self.invariant.is_plan at
