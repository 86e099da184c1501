-- one call, and its failure counted
use Rattle.std.proofs.Common.{refl}
use Rattle.metric_periodic.proofs.exports.Exports.flush.Goals as goal

pub returns : goal.returns
returns g c =
    let told = c.force_flush-answer.ensures in
    rw (← c.self.view_is) (
      record {
        answer = c.force_flush-answer.result;
        call = record {
          own = told.gives;
          keeps = told.text;
          same_text = told.same_text;
          same_takes = told.same_takes;
          answers = told.answer;
          goes_on = told.state;
        };
        exported = refl;
        failed = refl;
        delayed = refl;
        refused = refl;
        unflushed = c.failed_after-self-inside.ensures;
      },
      refl,
    )
