-- what each lock told
use Rattle.std.proofs.Common.{length}
use Rattle.metric_provider.proofs.RollLaws.{is_latest}
use Rattle.metric_provider.proofs.provider.Provider.latest.Goals as goal

pub returns : goal.returns
returns g c =
    is_latest g.B.Book.stands c.slots.result.now (length c.args.self.now.plan.facts.instruments) c.latest_of.result c.slots.ensures c.latest_of.ensures
