-- the laws of safe runs at the run of a safe plan
use Rattle.metric_safety.proofs.laws.safe_plans_have_safe_histories.Goals as goal

pub returns : goal.returns
returns c plan start h safe legal =
    let run = c.safe_plans_run_safely.ensures plan safe in
    record {
      identified = c.exported_streams_differ.ensures plan.streams plan.facts start h run legal;
      bounded = c.windows_are_bounded.ensures plan.streams plan.facts start h run legal;
      overflow = c.no_series_overflows.ensures plan.streams plan.facts start h run legal;
      sums = c.no_sum_refuses_a_recording.ensures plan.streams plan.facts start h run legal;
      numbers = c.numbers_are_in_range.ensures plan.streams plan.facts start h run legal;
    }
