-- the recordings of both are recordings that the instrument may have accepted
use Rattle.std.proofs.Common.{sym, subst}
use Rattle.metric_lanes.specs.Gathering.{Gathers}
use Rattle.metric_lanes.proofs.GatheringLaws.{gathers_both}
use Rattle.metric_lanes.proofs.gathered.Gathered.with.Goals as goal

pub returns-clause-gathers : goal.returns-clause-gathers
returns-clause-gathers c =
    subst (Gathers c.args.facts.now) (sym c.of_both.ensures)
    (gathers_both c.journals_are_bounded.ensures.bounded c.args.facts.now c.requires.safe c.args.self.now c.args.lane.now c.requires.gathers c.requires.lane c.requires.asked
    (c.goes_with.ensures.0 c.if-not-goes_with.false) c.range_fits.ensures.lo c.range_fits.ensures.hi c.in-Ok.streams c.in-Ok.ensures)
