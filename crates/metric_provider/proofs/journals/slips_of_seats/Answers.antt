-- the slips of one instrument more
use Rattle.std.proofs.Common.{List, [], ◌∷◌, ◌++◌, sym, ap, ◌∙◌, arith}
use Rattle.std.proofs.lemmas.List.FromFn.{map-range_with_len_more}
use Rattle.metric_history.specs.declared.slip.Slip.{Slip}
use Rattle.metric_provider.specs.Totals.{slips_of_seats, slips_on}
use Rattle.metric_provider.proofs.journals.slips_of_seats.Goals as goal

pub loop-instrument-preserved : goal.loop-instrument-preserved
loop-instrument-preserved c =
    let seats = c.args.seats.now in
    let instrument = c.loop-instrument.instrument in
    c.in_ok-push.ensures.items
    ∙ ap (λ (done : List (List (List Slip))). done ++ c.in_ok-slips_on.field-0 ∷ []) c.loop-instrument.invariant
    ∙ ap (λ (slips : List (List Slip)). slips_of_seats seats c.args.recorders instrument ++ slips ∷ []) c.in_ok-slips_on.ensures
    ∙ sym (map-range_with_len_more (slips_on seats c.args.recorders) 0 instrument instrument (omega arith))
