-- the points of the aggregates, one after the other
use Rattle.std.proofs.Common.{◌≡◌, ◌∙◌, ◌<◌, true, false, ap, arith, length, rules}
use Rattle.metric_facts.specs.Products.{product_of}
use Rattle.metric_dense.proofs.Reporting.{points_none, points_same, points_more, points_all}
use Rattle.metric_dense.proofs.dense_of.DenseOfTable.points.Goals as goal
use Rattle.metric_dense.proofs.dense_of.DenseOfTable.points.Goals.{then-not-is_empty+in_ok-point+in_ok-push, else-not-is_empty}

pub loop-rank-init : goal.loop-rank-init
loop-rank-init g c = (
  λ low. rw (← c.self.view_is) c.first-set.ensures,
  λ s window known. c.in_ok-points.ensures.items ∙ points_none g.A.Aggregate g.met.A.Aggregate.is_empty_of_none c.args.self.now s window known,
)

pub loop-rank-preserved : goal.loop-rank-preserved
loop-rank-preserved g c =
    let items : c.deref-aggregate-items.result.now ≡ c.args.self.now.aggregates = c.deref-aggregate-items.ensures.value ∙ ap (λ t. t.aggregates) c.self.view_is in
    let below : c.loop-rank._rank < product_of c.args.self.now.kept c.args.self.now.keys =
    rw (← c.self.view_is) (omega (arith, c.loop-rank-test.true, ap length c.deref-aggregate-items.ensures.value, c.self.invariant)) in (
      rw (← c.self.view_is) (λ low. c.step.ensures c.loop-rank._rank low ((rw (← c.self.view_is) at c.loop-rank.invariant.0) (omega (arith, low)))),
      λ s window known.
          elim c.if-not-is_empty.branch [
            | then-not-is_empty+in_ok-point+in_ok-push w ↦
                let some : g.A.Aggregate.is_empty c.aggregate-item.result ≡ false = search rules in
                points_more g.A.Aggregate g.met.A.Aggregate.is_empty_of_none c.args.self.now s window known
                c.deref-aggregate-items.result.now items c.loop-rank._rank c.aggregate-item.result c.loop-rank-test.true c.aggregate-item.is
                w.in_ok-point.field-0 c.loop-rank.points.items w.push.new.self.items c.if-not-is_empty.points.items some
                (λ added stands. rw (← c.loop-rank.invariant.0 below) (w.in_ok-point.ensures added stands)) (c.loop-rank.invariant.1 s window known)
                w.in_ok-push.ensures.items (ap (λ v. v.items) w.points-is)
            | else-not-is_empty w ↦
                let none : g.A.Aggregate.is_empty c.aggregate-item.result ≡ true = search rules in
                points_same g.A.Aggregate g.met.A.Aggregate.is_empty_of_none c.args.self.now s window known
                c.deref-aggregate-items.result.now items c.loop-rank._rank c.aggregate-item.result c.loop-rank-test.true c.aggregate-item.is
                c.loop-rank.points.items c.if-not-is_empty.points.items none (c.loop-rank.invariant.1 s window known) (ap (λ v. v.items) w.points-is)
          ],
    )

pub returns : goal.returns
returns g c = λ s window known.
    points_all g.A.Aggregate g.met.A.Aggregate.is_empty_of_none c.args.self.now s window known
    c.deref-aggregate-items.result.now (c.deref-aggregate-items.ensures.value ∙ ap (λ t. t.aggregates) c.self.view_is) c.loop-rank._rank c.loop-rank.points.items (omega arith) (c.loop-rank.invariant.1 s window known)
