-- the points of safe facts can be put together
use Rattle.std.proofs.Common.{List, sym, subst}
use Rattle.metric_history.specs.declared.batch.StreamPoints.{StreamPoints}
use Rattle.metric_lanes.specs.Together.{CanJoinStreams}
use Rattle.metric_lanes.proofs.GatheringLaws.{can_gather}
use Rattle.metric_lanes.proofs.gathered.Gathered.streams_with.Goals as goal

pub streams_together-requires : goal.streams_together-requires
streams_together-requires c =
    subst (λ (x : List StreamPoints). CanJoinStreams x c.as_slice.result.now) (sym c.as_slice-streams.ensures)
    (subst (CanJoinStreams c.args.self.now.batch.streams) (sym c.as_slice.ensures)
    (can_gather c.journals_are_bounded.ensures.bounded c.args.facts.now c.requires.safe c.args.self.now c.args.lane.now c.requires.gathers c.requires.lane c.requires.asked c.requires.together
    c.range_fits.ensures.lo c.range_fits.ensures.hi))
