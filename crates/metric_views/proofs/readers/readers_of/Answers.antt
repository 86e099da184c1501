-- No reader is read yet.
use Rattle.std.proofs.Common.{length, ap, refl}
use Rattle.metric_views.proofs.readers.readers_of.Goals as goal

pub loop-table-init : goal.loop-table-init
loop-table-init c = record { few = ap length c.new-readers.ensures; exact = rw (c.new-readers.ensures) refl }
