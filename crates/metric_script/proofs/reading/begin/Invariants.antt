-- the lines before are passed over
use Rattle.std.proofs.Common.{◌≡◌, drop}
use Rattle.metric_parts.specs.Reading.{texts}
use Rattle.metric_script.specs.Stops.{begun_in}
use Rattle.metric_script.proofs.reading.begin.Given as goal

abbrev pub invariant-loop-place : goal.invariant-loop-place
invariant-loop-place l = begun_in (texts (drop l.place l.lines)) ≡ begun_in (texts l.fn.lines)
