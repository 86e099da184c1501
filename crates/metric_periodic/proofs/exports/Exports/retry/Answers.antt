-- one call
use Rattle.std.proofs.Common.{refl}
use Rattle.metric_periodic.proofs.exports.Exports.retry.Goals as goal

pub returns : goal.returns
returns g c =
    rw (← c.self.view_is) (
      record {
        answer = c.retry.result;
        call = record {
          own = c.retry.ensures.gives;
          keeps = c.retry.ensures.text;
          same_text = c.retry.ensures.same_text;
          same_takes = c.retry.ensures.same_takes;
          goes_on = c.retry.ensures.state;
        };
        counts = refl;
      },
      refl,
    )
