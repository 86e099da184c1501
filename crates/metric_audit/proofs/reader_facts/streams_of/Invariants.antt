-- the reader's streams among those so far
use Rattle.std.proofs.Common.{◌≡◌, take}
use Rattle.std.specs.Prelude.{filter}
use Rattle.metric_facts.specs.Facts.{is_of_reader}
use Rattle.metric_audit.proofs.reader_facts.streams_of.Given as goal

abbrev pub invariant-loop-numbered : goal.invariant-loop-numbered
invariant-loop-numbered l = l.own ≡ filter (is_of_reader l.reader) (take l.numbered-index l.streams)
