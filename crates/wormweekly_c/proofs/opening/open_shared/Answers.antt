-- there is room, and the first handles hold what was made
use Rattle.std.proofs.Common.{◌≡◌, ◌++◌, List, Option, drop, length, sym, ap, subst, ◌∙◌, arith}
use Rattle.std.proofs.lemmas.List.{length-map}
use Rattle.std.proofs.lemmas.List.FromFn.{length-map-range_with_len}
use Rattle.wormweekly_c.specs.declared.handles.Handle.{Handle}
use Rattle.wormweekly_c.specs.declared.held.Held.{Held}
use Rattle.wormweekly_c.specs.declared.opening.Counts.{Counts}
use Rattle.wormweekly_c.specs.Opening.{held_in, new_reader_of, new_recorder_of}
use Rattle.metric_plan.specs.Plans.{PlanValue}
use Rattle.metric_seat.specs.Seats.{run_of}
use Rattle.wormweekly_c.proofs.HeldLaws.{first_held}
use Rattle.wormweekly_c.proofs.RoomLaws.{has_room}
use Rattle.wormweekly_c.proofs.opening.open_shared.Goals as goal

pub place-requires : goal.place-requires
place-requires c =
    let all = c.in-Ok.made.instruments.items in
    let long : length all ≡ length c.args.plan.now.facts.contents.instruments =
    sym (length-map all (λ (handle : Handle). handle.value)) ∙ c.in-Ok.ensures.instruments.count in
    omega (arith, long, (has_room c.counts_of.result _ _ _ (sym c.lacks_handles.ensures ∙ c.if-lacks_handles.false)).0, ap (λ (counts : Counts). counts.instruments) c.counts_of.ensures, ap (λ (p : PlanValue). length p.facts.contents.instruments) c.get.ensures)

pub place-requires-in-Ok : goal.place-requires-in-Ok
place-requires-in-Ok c =
    let all = c.in-Ok.made.recorders.items in
    let count = length c.args.plan.now.facts.contents.recorders in
    let long : length all ≡ count =
    sym (length-map all (λ (handle : Handle). handle.value))
    ∙ ap length c.in-Ok.ensures.recorders
    ∙ length-map-range_with_len (new_recorder_of c.args.plan.now (run_of c.args.plan.now c.args.run c.args.start)) 0 count in
    omega (arith, long, (has_room c.counts_of.result _ _ _ (sym c.lacks_handles.ensures ∙ c.if-lacks_handles.false)).1, ap (λ (counts : Counts). counts.recorders) c.counts_of.ensures, ap (λ (p : PlanValue). length p.facts.contents.recorders) c.get.ensures)

pub place-requires-in-Ok-2 : goal.place-requires-in-Ok-2
place-requires-in-Ok-2 c =
    let all = c.in-Ok.made.readers.items in
    let count = length c.args.plan.now.config.readers in
    let long : length all ≡ count =
    sym (length-map all (λ (handle : Handle). handle.value))
    ∙ ap length c.in-Ok.ensures.readers
    ∙ length-map-range_with_len (new_reader_of c.args.plan.now (run_of c.args.plan.now c.args.run c.args.start)) 0 count in
    omega (arith, long, (has_room c.counts_of.result _ _ _ (sym c.lacks_handles.ensures ∙ c.if-lacks_handles.false)).2, ap (λ (counts : Counts). counts.readers) c.counts_of.ensures, ap (λ (p : PlanValue). length p.config.readers) c.get.ensures)

pub returns-in-Ok-clause-opened : goal.returns-in-Ok-clause-opened
returns-in-Ok-clause-opened c = λ done. record {
  made = held_in c.in-Ok.made.instruments.items;
  new = c.in-Ok.ensures.instruments;
  instruments = first_held (λ (handle : Handle). handle.value) c.in-Ok.made.instruments.items c.args.instruments.now c.place.new.places c.place.ensures;
  recorders = subst (λ (made : List (Option Held)). held_in c.place-in-Ok.new.places ≡ made ++ drop (length made) (held_in c.args.recorders.now)) c.in-Ok.ensures.recorders
      (first_held (λ (handle : Handle). handle.value) c.in-Ok.made.recorders.items c.args.recorders.now c.place-in-Ok.new.places c.place-in-Ok.ensures);
  readers = subst (λ (made : List (Option Held)). held_in c.place-in-Ok-2.new.places ≡ made ++ drop (length made) (held_in c.args.readers.now)) c.in-Ok.ensures.readers
      (first_held (λ (handle : Handle). handle.value) c.in-Ok.made.readers.items c.args.readers.now c.place-in-Ok-2.new.places c.place-in-Ok-2.ensures);
}
