use Rattle.std.proofs.Common.{◌≡◌, length}
use Rattle.metric_io.specs.Prefix.{AppendsPrefix}
use Rattle.metric_io.proofs.whole.write_all.Given as goal

-- What was taken and what is left are the text, and the sink has not failed.
abbrev pub invariant-loop-rest : goal.invariant-loop-rest
invariant-loop-rest g l = record {
  taken : (part : AppendsPrefix (g.W.Sink.contents l.fn.sink) (g.W.Sink.contents l.sink) l.fn.text) × (part.rest ≡ l.rest);
  failures : g.W.Sink.failures l.sink ≡ g.W.Sink.failures l.fn.sink;
}

abbrev pub decreases-loop-rest : goal.decreases-loop-rest
decreases-loop-rest g l = length l.rest
