-- one seat more
use Rattle.std.proofs.Common.{rules, ◌≡◌, ◌++◌, [], ◌∷◌, List, Option, Some, None, length, map, sym, ap, ◌∙◌, arith}
use Rattle.std.specs.List.{range_with_len}
use Rattle.std.proofs.lemmas.List.{map-append}
use Rattle.std.proofs.lemmas.List.FromFn.{map-range_with_len_more}
use Rattle.metric_seat.specs.Seats.{new_collector}
use Rattle.wormweekly_c.specs.declared.handles.Handle.{Handle}
use Rattle.wormweekly_c.specs.declared.held.Held.{Held}
use Rattle.wormweekly_c.specs.declared.held.Held.TheVariants.{Reader}
use Rattle.wormweekly_c.specs.Opening.{new_reader_of, held_in}
use Rattle.wormweekly_c.proofs.opening.new_readers.Goals as goal

pub loop-number-preserved : goal.loop-number-preserved
loop-number-preserved c =
    let plan = c.args.plan.now in
    let run = c.args.run in
    let number = c.loop-number.number in
    let so_far = map (new_reader_of plan run) (range_with_len 0 number) in
    let seat : c.in_ok-seat.seat ≡ new_collector run (length plan.facts.instruments) number = search rules in
    let copied : c.in_ok-plan.plan ≡ plan = search rules in
    let made : c.in_ok-held.held.value ≡ Reader (record { plan = c.in_ok-plan.plan; seat = c.in_ok-seat.seat; kept = [] }) = search rules in
    let value : c.of.result.value ≡ new_reader_of plan run number =
    c.of.ensures ∙ ap (λ (own : Held). Some own) (made ∙ (λ i. Reader (record { plan = copied i; seat = seat i; kept = [] }))) in
    ap held_in c.in_ok-push.ensures.items
    ∙ map-append (λ (handle : Handle). handle.value) c.loop-number.all.items (c.of.result ∷ [])
    ∙ ap (λ (all : List (Option Held)). all ++ c.of.result.value ∷ []) c.loop-number.invariant
    ∙ ap (λ (own : Option Held). so_far ++ own ∷ []) value
    ∙ sym (map-range_with_len_more (new_reader_of plan run) 0 number number (omega arith))
