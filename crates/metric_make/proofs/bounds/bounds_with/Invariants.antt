-- the bounds of the instruments so far, of which none has a fault
use Rattle.std.proofs.Common.{◌-◌, length, Option}
use Rattle.std.specs.List.{AllZip, range_with_len}
use Rattle.metric_bounds.specs.First.{Each}
use Rattle.metric_make.specs.declared.fault.MakeFault.{MakeFault}
use Rattle.metric_make.specs.Finding.{InstrumentsFind, NumberFinds}
use Rattle.metric_cert.specs.Valid.{IsBoundAt}
use Rattle.metric_make.proofs.bounds.bounds_with.Given as goal

abbrev pub invariant-loop-number : goal.invariant-loop-number
invariant-loop-number l = record {
  bounds : AllZip (IsBoundAt l.catalogue l.streams) (range_with_len 0 l.number) l.bounds;
  found : (r : Option MakeFault) → Each (NumberFinds l.catalogue l.streams) (range_with_len l.number (length l.catalogue.instruments - l.number)) r
      → InstrumentsFind l.catalogue l.streams r;
}
