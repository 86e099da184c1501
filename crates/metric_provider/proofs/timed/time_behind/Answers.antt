-- what each lane told
use Rattle.metric_provider.proofs.RollLaws.{is_behind}
use Rattle.metric_provider.proofs.timed.time_behind.Goals as goal

pub returns : goal.returns
returns g c = is_behind g.B.Book.stands c.all.result.now c.latest_of.result c.all.ensures.some c.latest_of.ensures
