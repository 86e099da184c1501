-- one instrument more, and the end
use Rattle.std.proofs.Common.{◌≡◌, ◌<◌, ◌∙◌, Bool, ◌||◌, not, cond, Some, length, ap, arith, subst, sym}
use Rattle.std.specs.Prelude.{◌==◌, slice_get}
use Rattle.std.proofs.lemmas.Option.{slice_get-get_or}
use Rattle.metric_diff.specs.declared.programs.Found.{Found}
use Rattle.metric_diff.specs.declared.programs.Programs.TheVariants.{GoOn, GoOnButInC}
use Rattle.metric_diff.specs.Programs.{AnswersFound}
use Rattle.metric_diff.proofs.ProgramLaws.{walk_ends, walked_more}
use Rattle.metric_diff.proofs.programs.walked.Goals as goal
use Rattle.metric_diff.proofs.programs.walked.Goals.{then-is_moved, else-is_moved, then-is_moved-2, else-is_moved-2}

pub loop-number-preserved : goal.loop-number-preserved
loop-number-preserved c =
    let old = c.args.old.now in
    let new = c.args.new.now in
    let own = c.instrument-item.result in
    let number = c.loop-number.number in
    let items = c.instruments-instrument-items.result.now in
    let within : number < length items = omega arith in
    let is : slice_get items number ≡ Some own = slice_get-get_or items number own within ∙ ap Some (sym c.instrument-item.is) in
    let test = λ (b : Bool). b || not (c.in-At.place == number) in
    let e : c.if-is_moved.is_moved ≡ test c.loop-number.is_moved =
    elim c.if-is_moved.branch [
      | then-is_moved w ↦ w.is_moved-is ∙ w.if-is_moved.true ∙ ap test (sym w.if-is_moved.true)
      | else-is_moved w ↦ w.is_moved-is ∙ ap test (sym w.if-is_moved.false)
    ] in
    walked_more old new c.loop-number.is_moved c.if-is_moved.is_moved number c.in-At.place own c.loop-number.invariant
    (ap (λ is. slice_get is number) (sym c.instruments-instrument-items.ensures.instruments) ∙ is)
    (subst (λ (f : Found). AnswersFound old new own f) c.in-At.is c.in_ok-place.ensures) e

pub returns : goal.returns
returns c =
    walk_ends c.args.old.now c.args.new.now c.loop-number.is_moved c.loop-number.number c.if-is_moved-2.result c.loop-number.invariant
    (omega (arith, ap length c.instruments-instrument-items.ensures.instruments))
    (elim c.if-is_moved-2.branch [
      | then-is_moved-2 w ↦ w.result-is ∙ ap (λ (b : Bool). cond b GoOnButInC GoOn) (sym w.if-is_moved-2.true)
      | else-is_moved-2 w ↦ w.result-is ∙ ap (λ (b : Bool). cond b GoOnButInC GoOn) (sym w.if-is_moved-2.false)
    ])
