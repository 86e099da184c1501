-- an accepted recording
use Rattle.std.proofs.Common.{◌≡◌, ◌<◌, length, true, to_z, of_z, w64, rules}
use Rattle.std.proofs.lemmas.Int.{to_z-of_z}
use Rattle.metric_facts.specs.Facts.{in_bounds}
use Rattle.metric_core.proofs.StepLaws.{accepted_step}
use Rattle.metric_core.proofs.steps.record.Goals as goal

pub returns-in-Ok-record : goal.returns-in-Ok-record
returns-in-Ok-record g c =
    let same : to_z w64 (of_z w64 c.args.value) ≡ c.args.value = to_z-of_z w64 c.args.value c.ranges.value in
    let known : c.args.recorder < length c.args.cell.now.facts.budgets = search rules in
    let within : in_bounds c.args.cell.now.facts c.args.value ≡ true = search rules in
    accepted_step g.B.Book.stands c.args.cell.now c.record.new.self c.args.recorder c.in-Ok.set c.args.value (to_z w64 (of_z w64 c.args.value)) c.args.encoded
    c.in-Ok.is same known within c.in-Ok-record.ensures.answer c.in-Ok-record.ensures.new c.in-Ok-record.ensures.stands
