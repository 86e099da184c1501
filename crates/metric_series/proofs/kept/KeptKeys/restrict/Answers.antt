-- a set of which each key is kept
use Rattle.std.proofs.Common.{Bool, List, sym, ap, ◌∙◌}
use Rattle.metric_combinations.specs.Restrictions.{restricted}
use Rattle.metric_series.proofs.Keeping.{restricted-all}
use Rattle.metric_series.proofs.kept.KeptKeys.restrict.Goals as goal

pub returns-then-self : goal.returns-then-self
returns-then-self c =
    sym (restricted-all c.self.inside.flags c.args.set.now (sym c.self.invariant ∙ c.if-self.true))
    ∙ ap (λ (kept : List Bool). restricted kept c.args.set.now) c.self.view_is
