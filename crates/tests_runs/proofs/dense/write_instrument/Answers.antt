-- the streams by product have room for each series that they can have
use Rattle.std.proofs.Common.{subst}
use Rattle.metric_catalogue.specs.Sound.{IsSound}
use Rattle.metric_plan.specs.DenseFacts.{plan_dense}
use Rattle.tests_runs.proofs.dense.write_instrument.Goals as goal

pub write_table-requires : goal.write_table-requires
write_table-requires g c =
    plan_dense c.args.plan.now c.args.instrument c.facts.result.now c.facts.ensures.kept
    (subst IsSound c.catalogue.ensures.catalogue c.instruments-sound.ensures.sound) c.facts.ensures.facts
