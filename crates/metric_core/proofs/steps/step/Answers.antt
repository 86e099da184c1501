-- an event of an unknown instrument, and one of a known instrument
use borrow.Author.Rules.{scaled_fits≤}
use Rattle.std.proofs.Common.{◌≡◌, Some, get_or, length, refl, rules, arith}
use Rattle.std.specs.Prelude.{slice_get}
use Rattle.std.proofs.lemmas.Option.{slice_get-get_or}
use Rattle.metric_core.proofs.PlanFacts.{has_allowed_set}
use Rattle.metric_core.proofs.RunLaws.{known_at, unknown_at}
use Rattle.metric_core.proofs.steps.step.Goals as goal

pub returns-then-at-cells-clause-steps : goal.returns-then-at-cells-clause-steps
returns-then-at-cells-clause-steps g c = unknown_at g.B.Book.stands c.args.plan.now.facts c.args.cells.now c.args.event.now c.instrument-at.result c.instrument-at.ensures c.if-at-cells.true

pub answer-requires-clause-set : goal.answer-requires-clause-set
answer-requires-clause-set g c =
    let cell = get_or c.args.cells.now c.instrument-at.result c.index-cells-at.result in
    let found : slice_get c.args.cells.now c.instrument-at.result ≡ Some cell = slice_get-get_or c.args.cells.now c.instrument-at.result c.index-cells-at.result c.if-at-cells.false in
    has_allowed_set c.args.plan.now c.catalogue.result.now cell.facts c.args.event.now c.instrument-at.result c.catalogue.ensures.kept c.attributes_name_allowed_sets.ensures
    c.catalogue.ensures.catalogue c.instrument-at.ensures (c.requires.cells.own c.instrument-at.result cell found)

pub returns-clause-steps : goal.returns-clause-steps
returns-clause-steps g c =
    known_at g.B.Book.stands c.args.plan.now.facts c.args.cells.now c.args.event.now c.answer.result c.instrument-at.result c.catalogue.result.now c.index-cells-at.result c.answer.new.cell
    c.instrument-at.ensures c.catalogue.ensures.catalogue c.if-at-cells.false c.answer.ensures.step

pub returns-then-at-cells-clause-room : goal.returns-then-at-cells-clause-room
returns-then-at-cells-clause-room g c = refl

pub bounds-cells-at : goal.bounds-cells-at
bounds-cells-at g c = c.if-at-cells.false

pub answer-requires-clause-room : goal.answer-requires-clause-room
answer-requires-clause-room g c = c.requires.room

pub returns-clause-room : goal.returns-clause-room
returns-clause-room g c = c.answer.ensures.room

pub overflow_cast-at : goal.overflow_cast-at
overflow_cast-at g c = record { fits = omega (arith, c.instrument-at.type_inv) }

pub offset_bounds-cells-at : goal.offset_bounds-cells-at
offset_bounds-cells-at g c = scaled_fits≤ _ (length c.args.cells.now) _ (omega (arith, c.if-at-cells.false)) (search rules)
