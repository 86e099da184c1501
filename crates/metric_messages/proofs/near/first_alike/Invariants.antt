-- the letters so far are the same
use Rattle.std.proofs.Common.{◌≡◌, ◌+◌, drop}
use Rattle.metric_messages.specs.Near.{alike}
use Rattle.metric_messages.proofs.near.first_alike.Given as goal

abbrev pub invariant-loop-place : goal.invariant-loop-place
invariant-loop-place l = l.place + alike (drop l.place l.text) (drop l.place l.word) ≡ alike l.text l.word
