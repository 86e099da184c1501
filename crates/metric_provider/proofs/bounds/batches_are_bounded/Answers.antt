-- each batch by the recordings that it reports
use Rattle.metric_provider.proofs.BatchLaws.{batch_bounded}
use Rattle.metric_provider.proofs.bounds.batches_are_bounded.Goals as goal

pub returns : goal.returns
returns g c instrument start reader now seen own batch found next =
    batch_bounded own start reader seen now batch c.journals_are_bounded.ensures.bounded (c.is_vouched_for.ensures instrument own found).safe next
