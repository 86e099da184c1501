use Rattle.std.specs.Float.{binary64}
use Rattle.metric_wire.proofs.Numbers.{whole_number}
use Rattle.metric_wire.proofs.fields.push_double.Goals as goal

pub to_le_bytes-requires : goal.to_le_bytes-requires
to_le_bytes-requires c = rw c.nearest_i64_to_f64.ensures (whole_number binary64 _)
