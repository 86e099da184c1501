-- those so far
use Rattle.std.proofs.Common.{◌≡◌, map, take}
use Rattle.std.specs.Prelude.{All}
use Rattle.metric_provider.specs.Lanes.{kept_by}
use Rattle.metric_provider.specs.Locked.{AreLanes}
use Rattle.metric_provider.proofs.journals.journals_of.Given as goal

abbrev pub invariant-loop-lanes : goal.invariant-loop-lanes
invariant-loop-lanes g l = record {
  journals : l.journals.items ≡ map (kept_by g.B.Book.kept) (take l.lanes-index l.unlocked);
  kept : All (AreLanes g.B.Book.stands) (take l.lanes-index l.unlocked);
}
