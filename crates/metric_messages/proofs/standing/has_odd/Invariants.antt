-- what is left tells what all does
use Rattle.std.proofs.Common.{◌≡◌, drop}
use Rattle.metric_messages.specs.Standing.{has_odd}
use Rattle.metric_messages.proofs.standing.has_odd.Given as goal

abbrev pub invariant-loop-byte : goal.invariant-loop-byte
invariant-loop-byte l = has_odd l.before l.last (drop l.byte-index l.text) ≡ has_odd 10 10 l.text
