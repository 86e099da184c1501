-- the last letters so far are the same
use Rattle.std.proofs.Common.{◌≡◌, ◌+◌, drop, reverse}
use Rattle.metric_messages.specs.Near.{alike}
use Rattle.metric_messages.proofs.near.last_alike.Given as goal

abbrev pub invariant-loop-place : goal.invariant-loop-place
invariant-loop-place l =
    l.place + alike (drop l.place (reverse l.text)) (drop l.place (reverse l.word)) ≡ alike (reverse l.text) (reverse l.word)
