use Rattle.std.specs.Io.KnownBytes.{Keeps}
use Rattle.metric_io.proofs.standard.write_again.Given as goal

-- An interrupted write took nothing.
abbrev pub invariant-loop-try : goal.invariant-loop-try
invariant-loop-try g l = Keeps (g.W.Write.contents l.fn.writer) (g.W.Write.contents l.writer)
