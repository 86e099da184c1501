-- a bound too many, or too few; the numbers at a place; and a fault, or none
use Rattle.std.proofs.Common.{◌≡◌, ℕ, Bool, List, false, length, get_or, pos, ap, ◌∙◌, arith}
use Rattle.std.proofs.lemmas.List.{length-map}
use Rattle.std.proofs.lemmas.Option.{slice_get-get_or}
use Rattle.std.proofs.lemmas.Result.{err_from_is_err_and}
use Rattle.metric_cert.specs.declared.bound.InstrumentBound.{InstrumentBound}
use Rattle.std.proofs.lemmas.List.FromFn.{get_or-map-range_with_len, length-range_with_len}
use Rattle.metric_resolve.specs.Applying.{all_instruments}
use Rattle.metric_bounds.specs.Amounts.{total_of}
use Rattle.metric_bounds.specs.Sums.{is_summed}
use Rattle.metric_plan.specs.declared.fault.CheckFault.TheVariants.{CountRange}
use Rattle.metric_check.specs.Findings.{BoundFinds, of_bound}
use Rattle.metric_check.proofs.Walks.{onward_end, onward_fault, onward_missing, onward_more, onward_next, range_at}
use Rattle.metric_check.proofs.bounds.check_all.Goals as goal

pub returns-then-number-instruments : goal.returns-then-number-instruments
returns-then-number-instruments c =
    let contents = c.args.catalogue.now in
    let long = length-range_with_len 0 (length contents.instruments) in
    let same = ap length c.instruments-instruments.ensures.instruments in
    onward_more of_bound (BoundFinds contents c.args.streams.now) CountRange CountRange (all_instruments contents) c.args.bounds.now c.loop-number.number _ (omega arith) (omega arith) c.at_bound.ensures
    c.loop-number.invariant

pub bounds-totals-number : goal.bounds-totals-number
bounds-totals-number c =
    let contents = c.args.catalogue.now in
    let long = length-range_with_len 0 (length contents.instruments) in
    let same = ap length c.instruments-instruments.ensures.instruments in
    let mapped = ap length c.requires.totals ∙ length-map (all_instruments contents) (total_of contents) in
    omega arith

pub bounds-summed-number : goal.bounds-summed-number
bounds-summed-number c =
    let contents = c.args.catalogue.now in
    let long = length-range_with_len 0 (length contents.instruments) in
    let same = ap length c.instruments-instruments.ensures.instruments in
    let mapped = ap length c.requires.summed ∙ length-map (all_instruments contents) (is_summed c.args.streams.now) in
    omega arith

pub check_bound_at-requires-clause-total : goal.check_bound_at-requires-clause-total
check_bound_at-requires-clause-total c =
    let contents = c.args.catalogue.now in
    let n = c.loop-number.number in
    let same = ap length c.instruments-instruments.ensures.instruments in
    ap (λ (ts : List ℕ). get_or ts n 0) c.requires.totals ∙ get_or-map-range_with_len (total_of contents) 0 (length contents.instruments) n n 0 (omega arith) (omega arith)

pub check_bound_at-requires-clause-summed : goal.check_bound_at-requires-clause-summed
check_bound_at-requires-clause-summed c =
    let contents = c.args.catalogue.now in
    let n = c.loop-number.number in
    let same = ap length c.instruments-instruments.ensures.instruments in
    ap (λ (ss : List Bool). get_or ss n false) c.requires.summed
    ∙ get_or-map-range_with_len (is_summed c.args.streams.now) 0 (length contents.instruments) n n false (omega arith) (omega arith)

-- what stands for a bound where there is none
none : InstrumentBound
none = record { instrument = 0; total = 0; amount = 0; low = pos 0; high = pos 0 }

pub returns-in_err-check_bound_at : goal.returns-in_err-check_bound_at
unfolding none
returns-in_err-check_bound_at c =
    let contents = c.args.catalogue.now in
    let n = c.loop-number.number in
    let same = ap length c.instruments-instruments.ensures.instruments in
    let bounds = c.args.bounds.now in
    let out = err_from_is_err_and c.from_residual.result c.from_residual.ensures.1 in
    rw (out.1, out.2)
    (onward_fault of_bound (BoundFinds contents c.args.streams.now) CountRange CountRange (all_instruments contents) bounds n n (get_or bounds n none) c.in_err-check_bound_at.field-0.0
    (range_at (length contents.instruments) n (omega arith)) (slice_get-get_or bounds n none (omega arith)) c.in_err-check_bound_at.ensures c.loop-number.invariant)

pub loop-number-preserved : goal.loop-number-preserved
unfolding none
loop-number-preserved c =
    let contents = c.args.catalogue.now in
    let n = c.loop-number.number in
    let same = ap length c.instruments-instruments.ensures.instruments in
    let bounds = c.args.bounds.now in
    onward_next of_bound (BoundFinds contents c.args.streams.now) CountRange CountRange (all_instruments contents) bounds n n (get_or bounds n none)
    (range_at (length contents.instruments) n (omega arith)) (slice_get-get_or bounds n none (omega arith)) c.in_ok-check_bound_at.ensures c.loop-number.invariant

pub returns-then-bounds-instruments : goal.returns-then-bounds-instruments
returns-then-bounds-instruments c =
    let contents = c.args.catalogue.now in
    let long = length-range_with_len 0 (length contents.instruments) in
    let same = ap length c.instruments-instruments.ensures.instruments in
    let ended : length c.args.bounds.now ≡ c.loop-number.number = omega arith in
    onward_missing of_bound (BoundFinds contents c.args.streams.now) CountRange CountRange (all_instruments contents) c.args.bounds.now c.loop-number.number _ (omega arith) (omega arith)
    (c.at_bound-then-bounds-instruments.ensures ∙ ap (λ (n : ℕ). of_bound n CountRange) ended) c.loop-number.invariant

pub returns : goal.returns
returns c =
    let contents = c.args.catalogue.now in
    let long = length-range_with_len 0 (length contents.instruments) in
    let same = ap length c.instruments-instruments.ensures.instruments in
    onward_end of_bound (BoundFinds contents c.args.streams.now) CountRange CountRange (all_instruments contents) c.args.bounds.now c.loop-number.number (omega arith) (omega arith) c.loop-number.invariant
