-- the table is ready for the value that it takes
use Rattle.std.proofs.Common.{subst, rules, w64, SFits}
use Rattle.std.proofs.lemmas.Int.{to_z-of_z}
use Rattle.metric_series.specs.Calls.{TakesRecording}
use Rattle.metric_series.proofs.table.Table.add.Goals as goal

pub returns-clause-stands : goal.returns-clause-stands
returns-clause-stands g c =
    let in64 : SFits w64 c.args.value = search rules in
    subst (λ v. TakesRecording (g.Self.Table.stands c.args.self.now) (g.Self.Table.stands c.put.new.self) c.args.set.now v) (to_z-of_z w64 c.args.value in64)
    (c.put.ensures.stands c.args.self.now c.args.set.now c.in_ok-place.ensures.ok)
