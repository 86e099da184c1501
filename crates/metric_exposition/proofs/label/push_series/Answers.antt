use Rattle.metric_exposition.proofs.label.push_series.Goals as goal

pub returns-in-None : goal.returns-in-None
returns-in-None c = rw c.in-None.is c.push_named.ensures
