-- one instrument more
use Rattle.std.proofs.Common.{◌<◌, length, Some, None, false, sym, ap, subst, ◌∙◌, ◌+◌, arith}
use Rattle.std.specs.List.{AllZip, range_with_len}
use Rattle.metric_bounds.specs.Amounts.{total_of}
use Rattle.metric_bounds.specs.Sums.{is_summed}
use Rattle.metric_make.specs.declared.fault.MakeFault.TheVariants.{Memory}
use Rattle.metric_make.specs.Finding.{InstrumentsFind, NumberFinds}
use Rattle.metric_cert.specs.Valid.{IsBoundAt}
use Rattle.metric_make.proofs.Finds.{range_failed, range_passed, reports_on}
use Rattle.metric_make.proofs.Numbered.{bound_at, found_at}
use Rattle.metric_make.proofs.Pairs.{AllZip-range_more, element_at, table_at, table_length}
use Rattle.metric_make.proofs.bounds.bounds_with.Goals as goal

pub bounds-totals-number : goal.bounds-totals-number
bounds-totals-number c =
    let long = table_length _ _ _ c.requires in
    let count = ap length c.instruments-instrument-items.ensures.instruments in
    omega arith

pub bounds-as_slice-number : goal.bounds-as_slice-number
bounds-as_slice-number c =
    let long = table_length _ _ _ (c.as_slice.ensures ∙ c.in_ok-summed.ensures) in
    let count = ap length c.instruments-instrument-items.ensures.instruments in
    let other = ap length c.instruments.ensures.instruments in
    omega arith

pub returns-in_err-bound-clause-found : goal.returns-in_err-bound-clause-found
returns-in_err-bound-clause-found c =
    let contents = c.args.catalogue.now in
    let streams = c.args.streams.now in
    let n = c.loop-number.number in
    let i = c.instrument-item.result in
    let count = ap length c.instruments-instrument-items.ensures.instruments in
    let other = ap length c.instruments.ensures.instruments in
    let within : n < length contents.instruments = omega arith in
    let at = element_at contents.instruments c.instruments-instrument-items.result.now n i c.instruments-instrument-items.ensures.instruments (omega arith) c.instrument-item.is in
    let total = table_at (total_of contents) _ _ c.requires n 0 within in
    let flag = table_at (is_summed streams) _ _ (c.as_slice.ensures ∙ c.in_ok-summed.ensures) n false (omega arith) in
    reports_on Memory (InstrumentsFind contents streams) c.from_residual-in_err-bound.result c.in_err-bound.field-0.0 c.from_residual-in_err-bound.ensures.1
    (λ other. c.loop-number.invariant.found (Some c.in_err-bound.field-0.0)
    (range_failed (NumberFinds contents streams) n (length contents.instruments) within c.in_err-bound.field-0.0
    (found_at contents streams n _ _ i (Some c.in_err-bound.field-0.0) at total flag c.in_err-bound.ensures.found)))

pub loop-number-preserved : goal.loop-number-preserved
loop-number-preserved c =
    let contents = c.args.catalogue.now in
    let streams = c.args.streams.now in
    let n = c.loop-number.number in
    let i = c.instrument-item.result in
    let count = ap length c.instruments-instrument-items.ensures.instruments in
    let other = ap length c.instruments.ensures.instruments in
    let within : n < length contents.instruments = omega arith in
    let at = element_at contents.instruments c.instruments-instrument-items.result.now n i c.instruments-instrument-items.ensures.instruments (omega arith) c.instrument-item.is in
    let total = table_at (total_of contents) _ _ c.requires n 0 within in
    let flag = table_at (is_summed streams) _ _ (c.as_slice.ensures ∙ c.in_ok-summed.ensures) n false (omega arith) in
    record {
      bounds = subst (λ bs. AllZip (IsBoundAt contents streams) (range_with_len 0 (n + 1)) bs) (sym c.in_ok-push.ensures.ok)
          (AllZip-range_more (IsBoundAt contents streams) n c.loop-number.bounds c.in_ok-bound.bound c.loop-number.invariant.bounds
          (bound_at contents streams n _ _ i c.in_ok-bound.bound at total flag c.in_ok-bound.ensures.bound c.in_ok-bound.ensures.found));
      found = λ r rest. c.loop-number.invariant.found r
          (range_passed (NumberFinds contents streams) n (length contents.instruments) within
          (found_at contents streams n _ _ i None at total flag c.in_ok-bound.ensures.found) r rest);
    }
