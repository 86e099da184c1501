-- one table more is empty, where it is the reader's
use Rattle.std.proofs.Common.{◌≤◌, List, length, subst, arith}
use Rattle.std.proofs.lemmas.List.{take_all}
use Rattle.metric_marked.specs.Marks.{EmptiesOne}
use Rattle.metric_marked.specs.Stepwise.{EachAt}
use Rattle.metric_marked.specs.declared.stream_table.StreamTable.{StreamTable}
use Rattle.metric_marked.proofs.StepLaws.{each-stepped, emptied}
use Rattle.metric_marked.proofs.tables.empty.Goals as goal

pub loop-stream-preserved : goal.loop-stream-preserved
loop-stream-preserved c =
    let R : StreamTable → StreamTable → StreamTable → Type 0 = λ old new t. EmptiesOne old new c.args.reader in
    let long : length c.args.tables.now ≤ length c.args.tables.now = omega arith in
    each-stepped R c.args.tables.now c.loop-stream.tables c.args.tables.now c.loop-stream.stream-index c.stream-item.result c.empty_one.new.stream c.stream-item.result
    c.loop-stream.invariant long c.loop-stream-test.true c.empty_one.ensures

pub returns : goal.returns
returns c =
    let R : StreamTable → StreamTable → StreamTable → Type 0 = λ old new t. EmptiesOne old new c.args.reader in
    emptied c.args.reader c.args.tables.now c.loop-stream.tables
    (subst (λ (xs : List StreamTable). EachAt R c.args.tables.now c.loop-stream.tables xs) (take_all c.loop-stream.stream-index c.args.tables.now c.loop-stream-test.false) c.loop-stream.invariant)
