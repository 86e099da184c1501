-- the tables so far have taken the value
use Rattle.std.proofs.Common.{take}
use Rattle.metric_marked.specs.Stepwise.{EachAt, Puts}
use Rattle.metric_marked.proofs.tables.put_all.Given as goal

abbrev pub invariant-loop-index : goal.invariant-loop-index
invariant-loop-index l = EachAt (Puts l.entry) l.fn.tables l.tables (take l.index l.places)
