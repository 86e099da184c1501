-- the entries of the streams so far, of which none has a fault
use Rattle.std.proofs.Common.{◌≡◌, drop, map, take, Option}
use Rattle.std.specs.List.{enumerate_from}
use Rattle.metric_bounds.specs.First.{Each}
use Rattle.metric_make.specs.declared.fault.MakeFault.{MakeFault}
use Rattle.metric_make.specs.Finding.{LimitsFind, StreamFinds}
use Rattle.metric_make.specs.Making.{entry_of}
use Rattle.metric_make.proofs.streams.entries_of.Given as goal

abbrev pub invariant-loop-number : goal.invariant-loop-number
invariant-loop-number l = record {
  entries : l.entries ≡ map (entry_of l.catalogue) (take l.number l.streams);
  found : (r : Option MakeFault) → Each (StreamFinds l.catalogue) (drop l.number (enumerate_from 0 l.streams)) r → LimitsFind l.catalogue l.streams r;
}
