-- one instrument more
use Rattle.std.proofs.Common.{◌≡◌, ℕ, ◌++◌, [], Bool, Some, None, length, sym, ap, ◌∙◌, arith, if◌then◌else◌}
use Rattle.std.specs.List.{cons_option, filter_map, range_with_len}
use Rattle.std.proofs.lemmas.List.{append-nil}
use Rattle.metric_resolve.specs.declared.warning.Warning.TheVariants as warnings
use Rattle.metric_resolve.specs.Unfit.{is_unfit_at, unfit_with}
use Rattle.metric_resolve.proofs.Numbers.{filter_map_turn}
use Rattle.metric_resolve.proofs.unfit.add_view.Goals as goal
use Rattle.metric_resolve.proofs.unfit.add_view.Goals.{then-is_unfit_at+in_ok-push, else-is_unfit_at}

pub loop-instrument-preserved : goal.loop-instrument-preserved
unfolding is_unfit_at
loop-instrument-preserved c =
    let n = c.loop-instrument.instrument in
    let before = c.loop-instrument.warnings in
    let told = λ (b : Bool). before ++ cons_option (if b then Some (warnings.Unfit c.args.number n) else None) [] in
    filter_map_turn (unfit_with c.args.catalogue.now c.args.number (Some c.args.view.now)) n c.args.warnings.now before c.if-is_unfit_at.warnings c.loop-instrument.invariant
    (elim c.if-is_unfit_at.branch [
      | then-is_unfit_at+in_ok-push w ↦ w.warnings-is ∙ w.in_ok-push.ensures.ok ∙ ap told (sym w.if-is_unfit_at.true ∙ c.is_unfit_at.ensures)
      | else-is_unfit_at w ↦ w.warnings-is ∙ sym (append-nil before) ∙ ap told (sym w.if-is_unfit_at.false ∙ c.is_unfit_at.ensures)
    ])

pub returns : goal.returns
returns c =
    let contents = c.args.catalogue.now in
    let all : c.loop-instrument.instrument ≡ length contents.instruments = omega (arith, ap length c.instruments.ensures.instruments) in
    c.loop-instrument.invariant ∙ ap (λ (n : ℕ). c.args.warnings.now ++ filter_map (unfit_with contents c.args.number (Some c.args.view.now)) (range_with_len 0 n)) all
