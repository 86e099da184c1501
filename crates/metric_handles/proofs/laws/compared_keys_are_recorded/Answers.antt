use Rattle.metric_handles.proofs.KeysGiven.{records_keys}
use Rattle.metric_handles.proofs.laws.compared_keys_are_recorded.Goals as goal

pub returns : goal.returns
returns g c = records_keys _ _ c.encode_ignores_order.ensures
