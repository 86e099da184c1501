-- a value of a held series, of a series that is the next, or of the overflow series, as its first or not
use Rattle.std.proofs.Common.{◌≤◌, ◌<◌, length, sym, ap, subst, ◌∙◌, arith, rules, w64, SFits}
use Rattle.std.specs.Prelude.{IfSome}
use Rattle.std.proofs.lemmas.Int.{to_z-of_z}
use Rattle.metric_series.specs.declared.place.Place.TheVariants.{Held, Overflow}
use Rattle.metric_series.specs.Ready.{IsPlace}
use Rattle.metric_series.specs.Tables.{StandsTable}
use Rattle.metric_series.proofs.Adding.{first_fits, held_fits, new_fits, rest_fits}
use Rattle.metric_series.proofs.Placing.{placed}
use Rattle.metric_series.proofs.hashed.TableOf.find.Goals as goal

pub returns-in-Some-clause-in_range : goal.returns-in-Some-clause-in_range
returns-in-Some-clause-in_range g c = λ s window entry stands own same.
    let in64 : SFits w64 c.args.value = search rules in
    let known = subst (λ t. StandsTable g.A.Aggregate t s window) (sym c.self.view_is) stands in
    held_fits g.A.Aggregate _ s window entry c.args.key.now own known c.in-Some.aggregate.now (sym c.in-Some.ensures.value) (g.met.A.Aggregate.fits_in_range c.in-Some.aggregate.now)
    ∙ ap (g.A.Aggregate.fits c.in-Some.aggregate.now) (sym same ∙ sym (to_z-of_z w64 c.args.value in64))
    ∙ c.fitting.ensures.in_range

pub returns-in-Some-clause-place : goal.returns-in-Some-clause-place
returns-in-Some-clause-place g c =
    let in64 : SFits w64 c.args.value = search rules in
    subst (λ t. IfSome c.fitting.result (IsPlace g.A.Aggregate t c.args.key.now c.args.value)) c.self.view_is
    (placed c.fitting.result (Held c.in-Some.index) _ (IsPlace g.A.Aggregate _ c.args.key.now c.args.value) c.fitting.ensures.in_range c.fitting.ensures.place
    (λ fits. record {
      aggregate = c.in-Some.aggregate.now;
      found = sym c.in-Some.ensures.value;
      place = sym c.in-Some.ensures.index;
      fits = ap (g.A.Aggregate.fits c.in-Some.aggregate.now) (sym (to_z-of_z w64 c.args.value in64)) ∙ fits;
    }))

pub returns-then-count-self-clause-in_range : goal.returns-then-count-self-clause-in_range
returns-then-count-self-clause-in_range g c = λ s window entry stands own same.
    let in64 : SFits w64 c.args.value = search rules in
    let known = subst (λ t. StandsTable g.A.Aggregate t s window) (sym c.self.view_is) stands in
    let room : length c.self.inside.series.entries < c.self.inside.limit = omega (arith, c.if-count-self.true, c.len-count.ensures.len) in
    new_fits g.A.Aggregate _ s window entry c.args.key.now own known (sym c.in_default.ensures.value) room (subst (SFits w64) same in64)

pub returns-in-Some-overflow-clause-in_range : goal.returns-in-Some-overflow-clause-in_range
returns-in-Some-overflow-clause-in_range g c = λ s window entry stands own same.
    let in64 : SFits w64 c.args.value = search rules in
    let known = subst (λ t. StandsTable g.A.Aggregate t s window) (sym c.self.view_is) stands in
    let full : c.self.inside.limit ≤ length c.self.inside.series.entries = omega (arith, c.if-count-self.false, c.len-count.ensures.len) in
    rest_fits g.A.Aggregate _ s window entry c.args.key.now own known (sym c.in_default.ensures.value) full c.in-Some-overflow.overflow c.in-Some-overflow.is
    (g.met.A.Aggregate.fits_in_range c.in-Some-overflow.overflow)
    ∙ ap (g.A.Aggregate.fits c.in-Some-overflow.overflow) (sym same ∙ sym (to_z-of_z w64 c.args.value in64))
    ∙ c.fitting-in-Some-overflow.ensures.in_range

pub returns-in-Some-overflow-clause-place : goal.returns-in-Some-overflow-clause-place
returns-in-Some-overflow-clause-place g c =
    let in64 : SFits w64 c.args.value = search rules in
    subst (λ t. IfSome c.fitting-in-Some-overflow.result (IsPlace g.A.Aggregate t c.args.key.now c.args.value)) c.self.view_is
    (placed c.fitting-in-Some-overflow.result Overflow _ (IsPlace g.A.Aggregate _ c.args.key.now c.args.value) c.fitting-in-Some-overflow.ensures.in_range c.fitting-in-Some-overflow.ensures.place
    (λ fits. record {
      absent = sym c.in_default.ensures.value;
      full = omega (arith, c.if-count-self.false, c.len-count.ensures.len);
      aggregate = c.in-Some-overflow.overflow;
      found = c.in-Some-overflow.is;
      fits = ap (g.A.Aggregate.fits c.in-Some-overflow.overflow) (sym (to_z-of_z w64 c.args.value in64)) ∙ fits;
    }))

pub returns-in-None-clause-in_range : goal.returns-in-None-clause-in_range
returns-in-None-clause-in_range g c = λ s window entry stands own same.
    let in64 : SFits w64 c.args.value = search rules in
    let known = subst (λ t. StandsTable g.A.Aggregate t s window) (sym c.self.view_is) stands in
    let full : c.self.inside.limit ≤ length c.self.inside.series.entries = omega (arith, c.if-count-self.false, c.len-count.ensures.len) in
    first_fits g.A.Aggregate _ s window entry c.args.key.now own known (sym c.in_default.ensures.value) full c.in-None.is (subst (SFits w64) same in64)
