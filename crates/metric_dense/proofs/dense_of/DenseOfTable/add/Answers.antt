-- what each table answers, and which recordings it then has
use Rattle.std.proofs.Common.{subst, rules, w64, SFits}
use Rattle.std.proofs.lemmas.Int.{to_z-of_z}
use Rattle.std.proofs.lemmas.Result.{on_ok_weaker}
use Rattle.metric_series.specs.Calls.{JudgesRange, TakesRecording}
use Rattle.metric_dense.specs.DenseTables.{StandsDense}
use Rattle.metric_dense.proofs.dense_of.DenseOfTable.add.Goals as goal

pub returns-clause-in_range : goal.returns-clause-in_range
returns-clause-in_range g c =
    let in64 : SFits w64 c.args.value = search rules in
    subst (λ v. JudgesRange (StandsDense g.A.Aggregate c.args.self.now) c.args.set.now v c.add.result) (to_z-of_z w64 c.args.value in64) c.add.ensures.in_range

pub returns-clause-stands : goal.returns-clause-stands
returns-clause-stands g c =
    let in64 : SFits w64 c.args.value = search rules in
    on_ok_weaker c.add.result
    (subst (λ v. TakesRecording (StandsDense g.A.Aggregate c.args.self.now) (StandsDense g.A.Aggregate c.add.new.self) c.args.set.now v) (to_z-of_z w64 c.args.value in64))
    c.add.ensures.stands
