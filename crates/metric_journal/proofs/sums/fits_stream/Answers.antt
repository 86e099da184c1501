-- the sum of the rows with the recording
use mir.Val.{SFits}
use mir.Syntax.{w128}
use Rattle.std.proofs.lemmas.Int.{to_z-of_z}
use Rattle.std.proofs.Common.{rules, ap, sym, ◌∙◌, ◌^◌, ◌<◌, ◌+◌, length, ℤ, ◌+ℤ◌, List, ℕ, Option}
use Rattle.metric_aggregate.specs.Range.{sum_in_range}
use Rattle.metric_aggregate.specs.Value.{sum_of}
use Rattle.metric_history.specs.Aggregations.{stream_aggregation}
use Rattle.metric_history.specs.Series.{rows}
use Rattle.metric_history.specs.Points.{values}
use Rattle.metric_history.specs.SumLaws.{sum_fits}
use Rattle.metric_journal.proofs.sums.fits_stream.Goals as goal

pub returns : goal.returns
returns c =
    let s = c.args.stream.now in
    let fits : SFits w128 c.sum_with-sum.result = search rules in
    let fits_before : SFits w128 c.sum_of_rows.result = search rules in
    let few : length c.args.window.now + 1 < 2 ^ 64 = search rules in
    simp to_z-of_z at c.takes_sum.ensures
    ∙ ap (sum_in_range (stream_aggregation s))
    (simp to_z-of_z at c.sum_with-sum.ensures
    ∙ ap (λ (z : ℤ). z +ℤ c.args.entry.now.value) (c.sum_of_rows.ensures.sum ∙ ap (λ (p : Option (List ℕ)). sum_of (values (rows s c.args.window.now p))) c.place_of-place.ensures))
    ∙ sym (sum_fits s c.args.window.now c.args.entry.now few)
