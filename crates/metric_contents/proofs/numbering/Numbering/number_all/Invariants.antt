-- the values so far have their places, and those that are left repeat as all do
use Rattle.std.proofs.Common.{◌≡◌, take, drop}
use Rattle.metric_contents.specs.Places.{has_repeat, repeats_after}
use Rattle.metric_contents.specs.Numbering.{Numbers}
use Rattle.metric_contents.proofs.numbering.Numbering.number_all.Given as goal

abbrev pub invariant-loop-place : goal.invariant-loop-place
invariant-loop-place l = record {
  numbers : Numbers l.self (take l.place l.values);
  left : repeats_after (take l.place l.values) (drop l.place l.values) ≡ has_repeat l.values;
}
