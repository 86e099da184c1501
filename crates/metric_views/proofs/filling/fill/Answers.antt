-- The numbers are those of an instrument, a view and a reader that are there.
use Rattle.std.proofs.Common.{length, ap, arith}
use Rattle.metric_views.proofs.filling.fill.Goals as goal

pub bounds-instruments-instrument : goal.bounds-instruments-instrument
bounds-instruments-instrument c =
    let same = ap length c.instruments.ensures.instruments in
    let there = c.requires.instrument in
    omega arith

pub bounds-readers-reader : goal.bounds-readers-reader
bounds-readers-reader c =
    let same = ap length c.readers.ensures.readers in
    let there = c.requires.reader in
    omega arith
