-- what is left tells what all does
use Rattle.std.proofs.Common.{◌≡◌, drop}
use Rattle.metric_messages.specs.Standing.{is_listed}
use Rattle.metric_messages.proofs.standing.is_listed.Given as goal

abbrev pub invariant-loop-place : goal.invariant-loop-place
invariant-loop-place l = is_listed l.name l.number (drop l.place l.before) ≡ is_listed l.name l.number l.before
