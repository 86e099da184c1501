-- No view is read yet, and the number of a view is one of its table.
use Rattle.std.proofs.Common.{length, ap, arith, refl}
use Rattle.metric_views.proofs.views.views_of.Goals as goal

pub loop-table-init : goal.loop-table-init
loop-table-init c = record { few = ap length c.new-views.ensures; exact = rw (c.new-views.ensures) refl }

pub overflow_cast-len : goal.overflow_cast-len
overflow_cast-len c =
    let few = c.loop-table.invariant.few in
    omega arith
