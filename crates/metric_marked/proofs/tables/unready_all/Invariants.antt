-- the tables so far are restored
use Rattle.std.proofs.Common.{take}
use Rattle.metric_marked.specs.Stepwise.{EachAt, Restores}
use Rattle.metric_marked.proofs.tables.unready_all.Given as goal

abbrev pub invariant-loop-index : goal.invariant-loop-index
invariant-loop-index l = EachAt Restores l.fn.tables l.tables (take l.index l.places)
