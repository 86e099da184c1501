-- the aggregate of the set's rank takes the value
use Rattle.std.proofs.Common.{◌≡◌, length, sym, ap, subst, arith, rules, w64, SFits}
use Rattle.std.proofs.lemmas.Int.{to_z-of_z}
use Rattle.std.proofs.lemmas.List.{with_items_is}
use Rattle.std.specs.Vec.{with_items}
use Rattle.metric_series.specs.Calls.{TakesRecording}
use Rattle.metric_series.specs.declared.place.Place.TheVariants.{Held}
use Rattle.metric_dense.specs.DenseTables.{AddsAt, IsReadyDense, StandsDense}
use Rattle.metric_dense.proofs.Taking.{dense_put}
use Rattle.metric_dense.proofs.dense_of.DenseOfTable.put.Goals as goal

pub returns-in-Held-clause-stands : goal.returns-in-Held-clause-stands
returns-in-Held-clause-stands g c = λ old set given.
    let in64 : SFits w64 c.args.value = search rules in
    let ready = subst (λ t. IsReadyDense g.A.Aggregate old t set c.args.value (Held c.in-Held.rank)) (sym c.self.view_is)
    (subst (λ p. IsReadyDense g.A.Aggregate old c.args.self.now set c.args.value p) c.in-Held.is given) in
    let long : length c.add_at.new.aggregates ≡ c.self.inside.aggregates.len = omega (arith, c.add_at.auto.aggregates, c.as_mut_slice.ensures.len, ap length c.as_mut_slice.ensures.value, c.self.inside.aggregates.ok.0) in
    let kept : (with_items c.self.inside.aggregates c.add_at.new.aggregates).items ≡ c.add_at.new.aggregates = with_items_is c.self.inside.aggregates c.add_at.new.aggregates long in
    subst (λ list. TakesRecording (StandsDense g.A.Aggregate old)
    (StandsDense g.A.Aggregate (record { kept = c.self.inside.ranks.kept; keys = c.self.inside.ranks.keys; aggregates = list })) set c.args.value) (sym kept)
    (dense_put g.A.Aggregate old _ set c.args.value c.in-Held.rank c.add_at.new.aggregates ready
    (subst (λ list. AddsAt g.A.Aggregate list c.add_at.new.aggregates c.in-Held.rank c.args.value) c.as_mut_slice.ensures.value
    (subst (λ v. AddsAt g.A.Aggregate c.as_mut_slice.result.now c.add_at.new.aggregates c.in-Held.rank v) (to_z-of_z w64 c.args.value in64) c.add_at.ensures)))
