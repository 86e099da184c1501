-- the verdict on the table at the index
use Rattle.std.proofs.Common.{◌≡◌, Bool, true, false, List, sym, subst, rules, w64, SFits}
use Rattle.std.proofs.lemmas.Int.{to_z-of_z}
use Rattle.std.proofs.lemmas.List.{take_all}
use Rattle.metric_series.specs.Calls.{JudgesValue}
use Rattle.metric_marked.specs.Marks.{TableStands}
use Rattle.metric_marked.specs.StreamSeries.{stream_series}
use Rattle.metric_marked.specs.Stepwise.{AreInRange}
use Rattle.metric_marked.specs.declared.stream_table.StreamTable.{StreamTable}
use Rattle.metric_marked.proofs.StepLaws.{in_range-stepped, judges-all, judges-one}
use Rattle.metric_marked.proofs.TableLaws.{takes-at}
use Rattle.metric_marked.proofs.tables.all_fit.Goals as goal

pub fits-requires : goal.fits-requires
fits-requires c =
    subst (λ (t : StreamTable). stream_series.takes t.table c.args.entry.now.set) (sym c.stream-item.is)
    (takes-at c.args.tables.now c.loop-stream.stream-index c.stream-item.result c.args.entry.now.set c.requires c.loop-stream-test.true)

pub returns-then-not-fits : goal.returns-then-not-fits
returns-then-not-fits c =
    let in64 : SFits w64 c.args.entry.now.value = search rules in
    let unfit : c.fits.result ≡ false = search rules in
    let own : JudgesValue (TableStands c.stream-item.result) c.args.entry.now.set c.args.entry.now.value c.fits.result =
    subst (λ v. JudgesValue (TableStands c.stream-item.result) c.args.entry.now.set v c.fits.result) (to_z-of_z w64 c.args.entry.now.value in64) c.fits.ensures in
    let none : JudgesValue (TableStands c.stream-item.result) c.args.entry.now.set c.args.entry.now.value false =
    subst (λ (b : Bool). JudgesValue (TableStands c.stream-item.result) c.args.entry.now.set c.args.entry.now.value b) unfit own in
    judges-one c.args.entry.now c.args.tables.now c.loop-stream.stream-index c.stream-item.result c.loop-stream-test.true
    (subst (λ (t : StreamTable). JudgesValue (TableStands t) c.args.entry.now.set c.args.entry.now.value false) c.stream-item.is none)

pub loop-stream-preserved : goal.loop-stream-preserved
loop-stream-preserved c =
    let in64 : SFits w64 c.args.entry.now.value = search rules in
    let fit : c.fits.result ≡ true = search rules in
    let own : JudgesValue (TableStands c.stream-item.result) c.args.entry.now.set c.args.entry.now.value c.fits.result =
    subst (λ v. JudgesValue (TableStands c.stream-item.result) c.args.entry.now.set v c.fits.result) (to_z-of_z w64 c.args.entry.now.value in64) c.fits.ensures in
    let all : JudgesValue (TableStands c.stream-item.result) c.args.entry.now.set c.args.entry.now.value true =
    subst (λ (b : Bool). JudgesValue (TableStands c.stream-item.result) c.args.entry.now.set c.args.entry.now.value b) fit own in
    in_range-stepped c.args.entry.now c.args.tables.now c.loop-stream.stream-index c.stream-item.result c.loop-stream.invariant c.loop-stream-test.true
    (subst (λ (t : StreamTable). JudgesValue (TableStands t) c.args.entry.now.set c.args.entry.now.value true) c.stream-item.is all)

pub returns : goal.returns
returns c =
    judges-all c.args.entry.now c.args.tables.now
    (subst (λ (xs : List StreamTable). AreInRange c.args.entry.now xs) (take_all c.loop-stream.stream-index c.args.tables.now c.loop-stream-test.false) c.loop-stream.invariant)
