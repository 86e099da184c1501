-- one seat more
use Rattle.std.proofs.Common.{◌++◌, [], ◌∷◌, List, length, map, sym, ap, ◌∙◌, arith}
use Rattle.std.specs.List.{range_with_len}
use Rattle.std.proofs.lemmas.List.FromFn.{map-range_with_len_more}
use Rattle.metric_facts.specs.declared.facts.Facts.{Facts}
use Rattle.metric_seat.specs.Seats.{CollectorValue, new_collector}
use Rattle.metric_provider.proofs.starting.new_collectors.Goals as goal

pub loop-number-preserved : goal.loop-number-preserved
loop-number-preserved c =
    let run = c.args.run in
    let number = c.loop-number.number in
    let all = c.args.plan.now.facts.instruments in
    c.in_ok-push.ensures.items
    ∙ ap (λ (done : List CollectorValue). done ++ c.in_ok-new.field-0 ∷ []) c.loop-number.invariant
    ∙ ap (λ (seat : CollectorValue). map (new_collector run (length all)) (range_with_len 0 number) ++ seat ∷ [])
    (c.in_ok-new.ensures ∙ ap (λ (facts : List Facts). new_collector run (length facts) number) c.all_facts-instruments.ensures.facts)
    ∙ sym (map-range_with_len_more (new_collector run (length all)) 0 number number (omega arith))
