use Rattle.std.proofs.Common.{rules}
use Rattle.metric_provider.proofs.collector.Collector.collect.Goals as goal

pub returns-clause-seen : goal.returns-clause-seen
returns-clause-seen g c = search rules
