-- one recording more
use Rattle.std.proofs.Common.{arith, pos, []}
use Rattle.std.proofs.lemmas.Int.{ints, to_z-of_z}
use Rattle.metric_history.specs.declared.entry.Entry.{Entry}
use Rattle.metric_history.specs.Series.{belongs}
use Rattle.metric_history.specs.SumLaws.{sum_more}
use Rattle.metric_journal.proofs.sums.sum_of_rows.Goals as goal

pub loop-entry-preserved : goal.loop-entry-preserved
loop-entry-preserved c =
    let none : Entry = record { recorder = 0; set = []; value = pos 0 } in
    let more = sum_more (belongs c.args.stream.now c.args.window.now c.args.place.now) c.args.window.now c.loop-entry.entry-index none c.loop-entry-test.true in
    record {
      sum = grind (arith, ints, to_z-of_z, more);
      low = omega (arith, ints);
      high = omega (arith, ints);
    }
