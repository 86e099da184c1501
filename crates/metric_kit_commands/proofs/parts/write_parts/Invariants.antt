use Rattle.std.proofs.Common.{◌≡◌}
use Rattle.std.specs.Io.KnownBytes.{Appends}
use Rattle.metric_kit_commands.proofs.PartLaws.{first_parts}
use Rattle.metric_kit_commands.proofs.parts.write_parts.Given as goal

-- The sink took the texts of the first parts, and has not failed.
abbrev pub invariant-loop-number : goal.invariant-loop-number
invariant-loop-number g l = record {
  written : Appends (g.W.Sink.contents l.fn.sink) (g.W.Sink.contents l.sink) (first_parts (g.P.PartWriter.text l.writer) l.parts l.number);
  failures : g.W.Sink.failures l.sink ≡ g.W.Sink.failures l.fn.sink;
}
