-- the points of one table more
use Rattle.std.proofs.Common.{ℕ, [], take, add-one, sym, subst}
use Rattle.metric_marked.specs.Marks.{AddsAllPoints, AddsPoints}
use Rattle.metric_marked.specs.declared.stream_table.StreamTable.{StreamTable}
use Rattle.metric_marked.proofs.StepLaws.{adds-next}
use Rattle.metric_marked.proofs.tables.points_of.Goals as goal

pub loop-stream-preserved : goal.loop-stream-preserved
loop-stream-preserved c =
    subst (λ (n : ℕ). AddsAllPoints [] c.add_points.new.all.items (take n c.args.tables.now) c.args.reader) (sym (add-one c.loop-stream.stream-index))
    (adds-next [] c.loop-stream.all.items c.add_points.new.all.items c.args.tables.now c.loop-stream.stream-index c.stream-item.result c.args.reader c.loop-stream.invariant
    c.loop-stream-test.true
    (subst (λ (t : StreamTable). AddsPoints c.loop-stream.all.items c.add_points.new.all.items t c.args.reader) c.stream-item.is c.in_ok-add_points.ensures))
