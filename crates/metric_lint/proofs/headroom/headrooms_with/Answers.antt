-- one instrument more
use Rattle.std.proofs.Common.{◌<◌, length, false, ap, ◌∙◌, arith}
use Rattle.metric_bounds.specs.Amounts.{total_of}
use Rattle.metric_bounds.specs.Sums.{is_summed}
use Rattle.metric_lint.specs.Headrooms.{IsOwnHeadroom}
use Rattle.metric_lint.proofs.Lists.{element_at, pushed_each, pushed_long, table_at, table_length}
use Rattle.metric_lint.proofs.Rooms.{own_at}
use Rattle.metric_lint.proofs.headroom.headrooms_with.Goals as goal

pub bounds-totals-number : goal.bounds-totals-number
bounds-totals-number c =
    let long = table_length _ _ _ c.requires in
    let count = ap length c.instruments-instrument-items.ensures.instruments in
    omega arith

pub bounds-as_slice-number : goal.bounds-as_slice-number
bounds-as_slice-number c =
    let long = table_length _ _ _ (c.as_slice.ensures ∙ c.in_ok-summed.ensures) in
    let count = ap length c.instruments-instrument-items.ensures.instruments in
    let other = ap length c.instruments.ensures.instruments in
    omega arith

pub loop-number-preserved : goal.loop-number-preserved
loop-number-preserved c =
    let contents = c.args.catalogue.now in
    let streams = c.args.streams.now in
    let n = c.loop-number.number in
    let i = c.instrument-item.result in
    let h = c.headroom_of-headroom.result in
    let count = ap length c.instruments-instrument-items.ensures.instruments in
    let other = ap length c.instruments.ensures.instruments in
    let within : n < length contents.instruments = omega arith in
    let at = element_at contents.instruments c.instruments-instrument-items.result.now n i c.instruments-instrument-items.ensures.instruments (omega arith) c.instrument-item.is in
    let total = table_at (total_of contents) _ _ c.requires n 0 within in
    let flag = table_at (is_summed streams) _ _ (c.as_slice.ensures ∙ c.in_ok-summed.ensures) n false (omega arith) in
    let last = own_at contents streams n _ i h at (c.headroom_of-headroom.ensures.total ∙ total) flag c.headroom_of-headroom.ensures.edge in
    record {
      long = pushed_long n c.loop-number.all c.push.new.self h c.loop-number.invariant.long c.in_ok-push.ensures.ok;
      each = pushed_each (IsOwnHeadroom contents streams) n c.loop-number.all c.push.new.self h c.loop-number.invariant.long c.in_ok-push.ensures.ok c.loop-number.invariant.each last;
    }
