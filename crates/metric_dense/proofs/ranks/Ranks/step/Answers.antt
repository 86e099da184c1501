-- the entries of the keys are stepped
use Rattle.std.proofs.Common.{◌-◌, length}
use Rattle.metric_dense.proofs.StepLaws.{series_after}
use Rattle.metric_dense.proofs.ranks.Ranks.step.Goals as goal

pub returns : goal.returns
returns c = rw (← c.self.view_is) (λ r low is. rw (c.step.ensures, c.as_slice-keys.ensures, c.as_slice.ensures.items, c.get.ensures)
    (series_after (8 - length c.self.inside.keys) c.self.inside.kept c.self.inside.keys r c.args.set.now c.self.invariant.ranked.flags low is))
