-- point by point
use Rattle.std.proofs.Common.{List, sym, subst, arith}
use Rattle.std.proofs.lemmas.Bool.Decides.{nat_tests}
use Rattle.metric_history.specs.declared.batch.Point.{Point}
use Rattle.metric_lanes.specs.Merging.{Merges, rest_of}
use Rattle.metric_lanes.specs.Together.{CanJoin}
use Rattle.metric_lanes.proofs.MergingLaws.{all_merged, can_rest, goes_more}
use Rattle.metric_lanes.proofs.together.put_together.Goals as goal

pub loop-left-preserved : goal.loop-left-preserved
loop-left-preserved c =
    let next = c.in_ok-next.next in
    let left : List Point = rest_of next.is_of_first c.loop-left.left.now in
    let right : List Point = rest_of next.is_of_second c.loop-left.right.now in
    let can : CanJoin left right = can_rest next.is_of_first next.is_of_second c.loop-left.left.now c.loop-left.right.now c.loop-left.invariant.can in
    record {
      can =
          subst (λ (ps : List Point). CanJoin ps c.rest_of-right.result.now) (sym c.rest_of-left.ensures)
          (subst (CanJoin left) (sym c.rest_of-right.ensures) can);
      so_far = λ rest merged.
          goes_more c.args.a.now c.args.b.now c.loop-left.left.now c.loop-left.right.now c.loop-left.all c.push.new.self next c.loop-left.invariant.so_far
          c.in_ok-next.ensures c.in_ok-push.ensures.ok rest
          (subst (λ (ps : List Point). Merges ps right rest) c.rest_of-left.ensures
          (subst (λ (ps : List Point). Merges c.rest_of-left.result.now ps rest) c.rest_of-right.ensures merged));
    }

pub returns : goal.returns
returns c =
    all_merged c.args.a.now c.args.b.now c.loop-left.left.now c.loop-left.right.now c.loop-left.all c.requires c.loop-left.invariant.so_far
    (grind (arith, nat_tests)) (grind (arith, nat_tests))
