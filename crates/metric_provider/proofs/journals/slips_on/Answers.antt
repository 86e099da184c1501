-- the slips of one recorder more
use Rattle.std.proofs.Common.{ℕ, List, [], ◌∷◌, ◌++◌, sym, ap, ◌∙◌, arith}
use Rattle.std.proofs.lemmas.List.FromFn.{map-range_with_len_more}
use Rattle.metric_history.specs.declared.slip.Slip.{Slip}
use Rattle.metric_provider.specs.Totals.{slips_by, slips_on}
use Rattle.metric_provider.proofs.journals.slips_on.Goals as goal

pub loop-number-preserved : goal.loop-number-preserved
loop-number-preserved c =
    let seats = c.args.seats.now in
    let number = c.loop-number.number in
    c.in_ok-push.ensures.items
    ∙ ap (λ (done : List (List Slip)). done ++ c.in_ok-copy_of.field-0 ∷ []) c.loop-number.invariant
    ∙ ap (λ (slips : List Slip). slips_on seats number c.args.instrument ++ slips ∷ []) (c.in_ok-copy_of.ensures ∙ c.slips_by.ensures)
    ∙ sym (map-range_with_len_more (λ (k : ℕ). slips_by seats k c.args.instrument) 0 number number (omega arith))
