-- none of the warnings so far is of a collision
use Rattle.std.proofs.Common.{◌≡◌, drop}
use Rattle.metric_make.specs.Finding.{first_collision}
use Rattle.metric_make.proofs.making.first_collision.Given as goal

abbrev pub invariant-loop-warning : goal.invariant-loop-warning
invariant-loop-warning l = first_collision (drop l.warning-index l.warnings) ≡ first_collision l.warnings
