-- the handle of this turn holds what it held, and is looked at
use Rattle.std.proofs.Common.{◌≡◌, ◌+◌, List, Option, arith, sym, ap, ◌∙◌}
use Rattle.std.specs.Prelude.{slice_index_or}
use Rattle.std.specs.Option.{is_some}
use Rattle.wormweekly_c.proofs.NullLaws.{any_all, any_more, value_kept, where_first, where_second}
use Rattle.wormweekly_c.specs.Opening.{held_in}
use Rattle.wormweekly_c.specs.declared.handles.Handle.{Handle}
use Rattle.wormweekly_c.proofs.empty.is_some_open.Goals as goal
use Rattle.wormweekly_c.proofs.empty.is_some_open.Goals.{then-found, else-found}

pub loop-handle-preserved : goal.loop-handle-preserved
loop-handle-preserved c =
    let handles = c.loop-handle.handles in
    let i = c.loop-handle.handle-index in
    let item : c.handle-item.result.value ≡ (slice_index_or handles i c.handle-item.result).value = ap (λ (h : Handle). h.value) c.handle-item.is in
    let kept : held_in handles ≡ held_in c.args.handles.now = c.loop-handle.invariant.kept in
    let more = any_more (λ (h : Handle). h.value) handles c.args.handles.now i c.handle-item.result (omega (arith, c.loop-handle-test.true, c.loop-handle.auto.handles)) c.handle-item.is kept in
    let held : c.is_open-is_open.result ≡ is_some c.handle-item.result.value = c.is_open-is_open.ensures.answer ∙ ap is_some (sym item) in
    record {
      kept = value_kept (λ (h : Handle). h.value) handles i c.handle-item.result c.is_open-is_open.new.self (omega (arith, c.loop-handle-test.true, c.loop-handle.auto.handles)) c.handle-item.is (c.is_open-is_open.ensures.kept ∙ sym item) ∙ kept;
      found = elim c.if-found.branch [
        | then-found w ↦ w.found-is ∙ w.if-found.true ∙ sym (more ∙ where_first _ _ (sym c.loop-handle.invariant.found ∙ w.if-found.true))
        | else-found w ↦ w.found-is ∙ held ∙ sym (more ∙ where_second _ _ (sym c.loop-handle.invariant.found ∙ w.if-found.false))
      ];
    }

pub returns-clause-found : goal.returns-clause-found
returns-clause-found c = c.loop-handle.invariant.found ∙ any_all (λ (h : Handle). h.value) c.args.handles.now c.loop-handle.handle-index c.loop-handle-test.false
