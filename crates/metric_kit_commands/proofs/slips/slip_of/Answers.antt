-- the slip has the set key that the attributes name
use Rattle.std.specs.Int.{w64}
use Rattle.std.proofs.lemmas.Int.{to_z-of_z}
use Rattle.metric_kit_commands.proofs.TellingLaws.{slip_named, slip_unnamed}
use Rattle.metric_kit_commands.proofs.slips.slip_of.Goals as goal

pub returns-in-Ok : goal.returns-in-Ok
returns-in-Ok c = λ r.
    rw (to_z-of_z w64 c.args.value c.ranges.value)
    (slip_named c.args.catalogue.now c.args.instrument r c.args.recorder c.args.attrs.now c.args.value c.in-Ok.set c.encode_owned.result c.encode_owned.ensures c.in-Ok.is)

pub returns-in-Err : goal.returns-in-Err
returns-in-Err c =
    λ r. slip_unnamed c.args.catalogue.now c.args.instrument r c.args.recorder c.args.attrs.now c.args.value _ c.encode_owned.result c.encode_owned.ensures c.in-Err.is
