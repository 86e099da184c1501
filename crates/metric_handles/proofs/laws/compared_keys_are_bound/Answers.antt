use Rattle.metric_handles.proofs.KeysGiven.{binds_keys}
use Rattle.metric_handles.proofs.laws.compared_keys_are_bound.Goals as goal

pub returns : goal.returns
returns c = binds_keys c.encode_ignores_order.ensures
