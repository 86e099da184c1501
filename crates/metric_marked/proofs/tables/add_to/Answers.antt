-- what the stream's table answers
use Rattle.std.proofs.Common.{ℤ, ap, refl, subst, rules, w64, SFits}
use Rattle.std.proofs.lemmas.Int.{to_z-of_z}
use Rattle.std.proofs.lemmas.Result.{on_err_weaker, on_ok_weaker}
use Rattle.metric_series.specs.Calls.{JudgesRange, TakesRecording}
use Rattle.metric_marked.specs.Marks.{TableStands}
use Rattle.metric_marked.specs.StreamSeries.{stream_series}
use Rattle.metric_marked.proofs.tables.add_to.Goals as goal

pub returns : goal.returns
returns c =
    let in64 : SFits w64 c.args.entry.now.value = search rules in
    let back = to_z-of_z w64 c.args.entry.now.value in64 in
    record {
      in_range = subst (λ (v : ℤ). JudgesRange (TableStands c.args.stream.now) c.args.entry.now.set v c.add.result) back c.add.ensures.in_range;
      memory = c.add.ensures.room;
      same = record { number = refl; reader = refl; places = c.add.ensures.places };
      stands = on_ok_weaker c.add.result
          (subst (λ (v : ℤ). TakesRecording (TableStands c.args.stream.now) (stream_series.stands c.add.new.self) c.args.entry.now.set v) back)
          c.add.ensures.stands;
      err = on_err_weaker c.add.result (ap (λ table. record c.args.stream.now { table = table })) c.add.ensures.err;
    }
