-- the place that was found
use Rattle.std.proofs.Common.{sym, ◌∙◌, w64, to_z, of_z}
use Rattle.metric_series.specs.Ready.{IsPlace}
use Rattle.metric_series.proofs.Placing.{found_place}
use Rattle.metric_series.proofs.hashed.TableOfTable.ready.Goals as goal

pub prepare-requires : goal.prepare-requires
prepare-requires g c = (
  to_z w64 (of_z w64 c.args.value),
  found_place c.find.result _ c.in_ok-place.place (IsPlace g.A.Aggregate c.args.self.now c.key-key.result (to_z w64 (of_z w64 c.args.value)))
      (sym c.ok_or.ensures.value ∙ c.in_ok-place.was) c.find.ensures.place,
)
