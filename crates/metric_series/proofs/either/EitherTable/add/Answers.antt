-- what the table that is there answers, and which recordings it then has
use Rattle.std.proofs.Common.{subst, rules, w64, SFits}
use Rattle.std.proofs.lemmas.Int.{to_z-of_z}
use Rattle.std.proofs.lemmas.Result.{on_ok_weaker}
use Rattle.metric_series.specs.Calls.{JudgesRange, TakesRecording}
use Rattle.metric_series.specs.Eithers.{Stands}
use Rattle.metric_series.proofs.either.EitherTable.add.Goals as goal

pub returns-in-Left-clause-in_range : goal.returns-in-Left-clause-in_range
returns-in-Left-clause-in_range g c = λ s window recorder stands.
    let in64 : SFits w64 c.args.value = search rules in
    subst (λ v. JudgesRange (g.A.Table.stands c.in-Left.table) c.args.set.now v c.add.result) (to_z-of_z w64 c.args.value in64) c.add.ensures.in_range
    s window recorder (subst (λ t. Stands g.A.Table g.B.Table t s window) c.in-Left.is stands)

pub returns-in-Left-clause-stands : goal.returns-in-Left-clause-stands
returns-in-Left-clause-stands g c =
    let in64 : SFits w64 c.args.value = search rules in
    on_ok_weaker c.add.result
    (λ takes s window recorder stands.
    subst (λ v. TakesRecording (g.A.Table.stands c.in-Left.table) (g.A.Table.stands c.add.new.self) c.args.set.now v) (to_z-of_z w64 c.args.value in64) takes
    s window recorder (subst (λ t. Stands g.A.Table g.B.Table t s window) c.in-Left.is stands))
    c.add.ensures.stands

pub returns-in-Right-clause-in_range : goal.returns-in-Right-clause-in_range
returns-in-Right-clause-in_range g c = λ s window recorder stands.
    let in64 : SFits w64 c.args.value = search rules in
    subst (λ v. JudgesRange (g.B.Table.stands c.in-Right.table) c.args.set.now v c.add-in-Right.result) (to_z-of_z w64 c.args.value in64) c.add-in-Right.ensures.in_range
    s window recorder (subst (λ t. Stands g.A.Table g.B.Table t s window) c.in-Right.is stands)

pub returns-in-Right-clause-stands : goal.returns-in-Right-clause-stands
returns-in-Right-clause-stands g c =
    let in64 : SFits w64 c.args.value = search rules in
    on_ok_weaker c.add-in-Right.result
    (λ takes s window recorder stands.
    subst (λ v. TakesRecording (g.B.Table.stands c.in-Right.table) (g.B.Table.stands c.add-in-Right.new.self) c.args.set.now v) (to_z-of_z w64 c.args.value in64) takes
    s window recorder (subst (λ t. Stands g.A.Table g.B.Table t s window) c.in-Right.is stands))
    c.add-in-Right.ensures.stands
