-- the table that is there takes the value
use Rattle.std.proofs.Common.{sym, subst, rules, w64, SFits}
use Rattle.std.proofs.lemmas.Int.{to_z-of_z}
use Rattle.metric_series.specs.Calls.{TakesRecording}
use Rattle.metric_series.specs.Eithers.{Stands}
use Rattle.metric_series.proofs.EitherLaws.{left_was, right_was}
use Rattle.metric_series.proofs.either.EitherTable.put.Goals as goal

pub put-requires : goal.put-requires
put-requires g c =
    let in64 : SFits w64 c.args.value = search rules in
    let was = left_was g.A.Table g.B.Table c.requires.1 c.args.value c.args.place c.requires.0 c.args.self.now c.in-Left.table c.requires.2 c.in-Left.is in
    (was.0, c.requires.1, subst (λ v. g.A.Table.is_ready was.0 c.in-Left.table c.requires.1 v c.args.place) (sym (to_z-of_z w64 c.args.value in64)) was.2)

pub returns-in-Left-clause-stands : goal.returns-in-Left-clause-stands
returns-in-Left-clause-stands g c = λ old set ready s window recorder stands.
    let in64 : SFits w64 c.args.value = search rules in
    let back = to_z-of_z w64 c.args.value in64 in
    let was = left_was g.A.Table g.B.Table set c.args.value c.args.place old c.args.self.now c.in-Left.table ready c.in-Left.is in
    subst (λ v. TakesRecording (g.A.Table.stands was.0) (g.A.Table.stands c.put.new.self) set v) back
    (c.put.ensures.stands was.0 set (subst (λ v. g.A.Table.is_ready was.0 c.in-Left.table set v c.args.place) (sym back) was.2))
    s window recorder (subst (λ t. Stands g.A.Table g.B.Table t s window) was.1 stands)

pub put-requires-in-Right : goal.put-requires-in-Right
put-requires-in-Right g c =
    let in64 : SFits w64 c.args.value = search rules in
    let was = right_was g.A.Table g.B.Table c.requires.1 c.args.value c.args.place c.requires.0 c.args.self.now c.in-Right.table c.requires.2 c.in-Right.is in
    (was.0, c.requires.1, subst (λ v. g.B.Table.is_ready was.0 c.in-Right.table c.requires.1 v c.args.place) (sym (to_z-of_z w64 c.args.value in64)) was.2)

pub returns-in-Right-clause-stands : goal.returns-in-Right-clause-stands
returns-in-Right-clause-stands g c = λ old set ready s window recorder stands.
    let in64 : SFits w64 c.args.value = search rules in
    let back = to_z-of_z w64 c.args.value in64 in
    let was = right_was g.A.Table g.B.Table set c.args.value c.args.place old c.args.self.now c.in-Right.table ready c.in-Right.is in
    subst (λ v. TakesRecording (g.B.Table.stands was.0) (g.B.Table.stands c.put-in-Right.new.self) set v) back
    (c.put-in-Right.ensures.stands was.0 set (subst (λ v. g.B.Table.is_ready was.0 c.in-Right.table set v c.args.place) (sym back) was.2))
    s window recorder (subst (λ t. Stands g.A.Table g.B.Table t s window) was.1 stands)
