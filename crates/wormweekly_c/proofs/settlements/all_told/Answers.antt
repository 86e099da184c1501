-- the handle of this turn holds what it held, and its seat has told
use Rattle.std.proofs.Common.{rules, ◌≡◌, ◌+◌, List, [], ◌∷◌, ◌++◌, Option, Some, Ok, inl, map, sym, ap, subst, take, ◌∙◌, arith}
use Rattle.std.specs.Prelude.{slice_get, slice_index_or}
use Rattle.wormweekly_c.proofs.NullLaws.{value_kept}
use Rattle.wormweekly_c.proofs.ToldLaws.{seat_at, told_more}
use Rattle.wormweekly_c.specs.Codes.{WhereHeld, recorder_in, recorder_of}
use Rattle.wormweekly_c.specs.Settlements.{AllTold, TellsNot, recorders_in}
use Rattle.wormweekly_c.specs.declared.handles.Handle.{Handle}
use Rattle.wormweekly_c.specs.declared.held.Held.{Held}
use Rattle.metric_hosted.specs.declared.planned.HostedRecorder.{HostedRecorder}
use Rattle.metric_hosted.specs.declared.settling.SeatTold.{SeatTold}
use Rattle.metric_hosted.specs.Settlements.{TellsOf}
use Rattle.wormweekly_c.proofs.settlements.all_told.Goals as goal

pub returns-in-Err-clause-recorders : goal.returns-in-Err-clause-recorders
returns-in-Err-clause-recorders c =
    value_kept (λ (r : Handle). r.value) c.loop-handle.recorders c.loop-handle.handle-index c.handle-item.result c.told_by.new.recorder (omega (arith, c.loop-handle-test.true, c.loop-handle.auto.recorders)) c.handle-item.is (c.told_by.ensures.recorder ∙ sym (ap (λ (r : Handle). r.value) c.handle-item.is))
    ∙ c.loop-handle.invariant.kept

pub returns-in-Err-clause-untold : goal.returns-in-Err-clause-untold
returns-in-Err-clause-untold c =
    let h = c.args.held.now in
    let handles = c.loop-handle.recorders in
    let i = c.loop-handle.handle-index in
    let item : c.handle-item.result.value ≡ (slice_index_or handles i c.handle-item.result).value = ap (λ (r : Handle). r.value) c.handle-item.is in
    inl (record {
      at = i;
      seat = recorder_in c.handle-item.result;
      is = subst (λ (seats : List (Option HostedRecorder)). slice_get seats i ≡ Some (recorder_in c.handle-item.result)) (ap (map recorder_of) c.loop-handle.invariant.kept)
          (seat_at handles i c.handle-item.result (omega (arith, c.loop-handle-test.true, c.loop-handle.auto.recorders)) c.handle-item.is);
      why = subst (λ (seat : Option Held). TellsNot h (recorder_of seat) c.in-Err.code) (sym item) c.in-Err.ensures.untold;
      told = c.loop-handle.all.items;
      before = c.loop-handle.invariant.told;
    })

pub returns-then-is_err-clause-recorders : goal.returns-then-is_err-clause-recorders
returns-then-is_err-clause-recorders c =
    value_kept (λ (r : Handle). r.value) c.loop-handle.recorders c.loop-handle.handle-index c.handle-item.result c.told_by.new.recorder (omega (arith, c.loop-handle-test.true, c.loop-handle.auto.recorders)) c.handle-item.is (c.told_by.ensures.recorder ∙ sym (ap (λ (r : Handle). r.value) c.handle-item.is))
    ∙ c.loop-handle.invariant.kept

pub loop-handle-preserved : goal.loop-handle-preserved
loop-handle-preserved c =
    let h = c.args.held.now in
    let handles = c.loop-handle.recorders in
    let i = c.loop-handle.handle-index in
    let all = c.loop-handle.all.items in
    let pushed : c.push.new.self.items ≡ all ++ c.in-Ok.told ∷ [] = search rules in
    let kept : recorders_in handles ≡ recorders_in c.args.recorders.now = ap (map recorder_of) c.loop-handle.invariant.kept in
    let before : AllTold h (take i (recorders_in handles)) all =
    subst (λ (seats : List (Option HostedRecorder)). AllTold h (take i seats) all) (sym kept) c.loop-handle.invariant.told in
    let item : c.handle-item.result.value ≡ (slice_index_or handles i c.handle-item.result).value = ap (λ (r : Handle). r.value) c.handle-item.is in
    let tells = subst (λ (v : Option Held). WhereHeld (recorder_of v) ⊥ (λ r. TellsOf r.plan h r.seat (Ok c.in-Ok.told))) (sym item) c.in-Ok.ensures.told in
    let more = told_more h handles all i c.handle-item.result c.in-Ok.told (omega (arith, c.loop-handle-test.true, c.loop-handle.auto.recorders)) c.handle-item.is tells before in
    record {
      kept = value_kept (λ (r : Handle). r.value) handles i c.handle-item.result c.told_by.new.recorder (omega (arith, c.loop-handle-test.true, c.loop-handle.auto.recorders)) c.handle-item.is (c.told_by.ensures.recorder ∙ sym item) ∙ c.loop-handle.invariant.kept;
      told = subst (λ (told : List SeatTold). AllTold h (take (i + 1) (recorders_in c.args.recorders.now)) told) (sym pushed)
          (subst (λ (seats : List (Option HostedRecorder)). AllTold h (take (i + 1) seats) (all ++ c.in-Ok.told ∷ [])) kept more);
    }
