-- a cell without recordings
use Rattle.std.proofs.Common.{◌≡◌, Some, ap, subst, sym, ◌∙◌, rules}
use Rattle.std.specs.Prelude.{slice_get}
use Rattle.metric_catalogue.specs.Sound.{IsSound}
use Rattle.metric_plan.specs.DenseFacts.{plan_dense}
use Rattle.metric_core.proofs.CellLaws.{kept_new, stands_new}
use Rattle.metric_core.proofs.PlanFacts.{budgets_fit}
use Rattle.metric_core.proofs.cell.Cell.with_seed.Goals as goal

-- the streams by product have room for each series that they can have
pub new-requires : goal.new-requires
new-requires g c =
    let found : slice_get c.args.plan.now.facts.instruments c.args.instrument ≡ Some c.in_ok-facts.facts = c.facts.ensures.facts ∙ ap Some (sym c.in_ok-facts.ensures) in
    plan_dense c.args.plan.now c.args.instrument c.in_ok-facts.facts c.facts.ensures.kept
    (subst IsSound c.catalogue.ensures.catalogue c.instruments-sound.ensures.sound) found

pub invariant_of-result : goal.invariant_of-result
invariant_of-result g c =
    let found : slice_get c.args.plan.now.facts.instruments c.args.instrument ≡ Some c.in_ok-facts.facts = c.facts.ensures.facts ∙ ap Some (sym c.in_ok-facts.ensures) in
    kept_new g.B.Book.stands _ c.args.start (search rules) c.in_ok-book.ensures (budgets_fit c.args.plan.now c.args.instrument c.in_ok-facts.facts c.facts.ensures.kept found)

pub returns-clause-stands : goal.returns-clause-stands
returns-clause-stands g c = stands_new g.B.Book.stands _ c.args.start (search rules) c.in_ok-book.ensures
