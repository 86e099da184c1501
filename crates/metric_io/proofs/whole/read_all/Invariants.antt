use Rattle.std.proofs.Common.{◌≡◌, ◌+◌, ◌≤◌, vec_len}
use Rattle.std.specs.Io.KnownBytes.{Consumes}
use Rattle.metric_io.specs.Counts.{higher_count}
use Rattle.metric_io.specs.Input.{most_bytes}
use Rattle.metric_io.proofs.whole.read_all.Given as goal

-- The bytes so far are those that the source lost, it has not failed, and each turn was one read, which gave a byte or
-- was interrupted.
abbrev pub invariant-loop-turn : goal.invariant-loop-turn
invariant-loop-turn g l = let old = g.R.Source.counts l.fn.source in let new = g.R.Source.counts l.source in record {
  taken : Consumes (g.R.Source.remaining l.fn.source) (g.R.Source.remaining l.source) l.all.items;
  small : vec_len l.all ≤ most_bytes;
  room : vec_len l.buffer ≡ 65536;
  failures : new.failures ≡ old.failures;
  reads : new.reads ≤ old.reads + l._turn;
  asked : higher_count old.reads l._turn ≤ new.reads;
  gave : higher_count old.interruptions l._turn ≤ new.interruptions + vec_len l.all;
}
