-- one call, and its answer counted
use Rattle.std.proofs.Common.{refl}
use Rattle.metric_periodic.proofs.exports.Exports.hand_on_one.Goals as goal

pub returns : goal.returns
returns g c =
    let told = c.export-answer.ensures in
    rw (← c.self.view_is) (
      record {
        answer = c.export-answer.result;
        call = rw c.count.ensures.exporter (record {
          own = told.gives;
          appends = told.text;
          same_text = told.same_text;
          same_takes = told.same_takes;
          answers = told.answer;
          goes_on = told.state;
          others = told.others;
        });
        exported = c.count.ensures.exported;
        failed = c.count.ensures.failed;
        delayed = c.count.ensures.delayed;
        refused = c.count.ensures.refused;
        unflushed = c.count.ensures.unflushed;
      },
      refl,
    )
