-- the tables so far are empty, where they are the reader's
use Rattle.std.proofs.Common.{take}
use Rattle.metric_marked.specs.Marks.{EmptiesOne}
use Rattle.metric_marked.specs.Stepwise.{EachAt}
use Rattle.metric_marked.specs.declared.stream_table.StreamTable.{StreamTable}
use Rattle.metric_marked.proofs.tables.empty.Given as goal

abbrev pub invariant-loop-stream : goal.invariant-loop-stream
invariant-loop-stream l = EachAt (λ old new (t : StreamTable). EmptiesOne old new l.reader) l.fn.tables l.tables (take l.stream-index l.fn.tables)
