-- the place is that of a held series, of the next one, or of the overflow series, with its first value or with more
use Rattle.std.proofs.Common.{sym, subst, rules, w64, SFits}
use Rattle.std.proofs.lemmas.Int.{to_z-of_z}
use Rattle.metric_series.specs.Ready.{AddsAt, AddsRest, FitsAt, FitsRest, IsReadyTable}
use Rattle.metric_series.specs.declared.place.Place.TheVariants.{Held, New, Overflow, NewOverflow}
use Rattle.metric_series.proofs.Putting.{first_fits_at, first_put, held_fits_at, held_put, new_fits_at, new_put, rest_fits_at, rest_put}
use Rattle.metric_series.proofs.hashed.TableOfTable.put.Goals as goal

pub add_at-requires : goal.add_at-requires
add_at-requires g c =
    let in64 : SFits w64 c.args.value = search rules in
    let ready = subst (λ t. IsReadyTable g.A.Aggregate c.requires.0 t c.requires.1 c.args.value (Held c.in-Held.index)) (sym c.self.view_is)
    (subst (λ p. IsReadyTable g.A.Aggregate c.requires.0 c.args.self.now c.requires.1 c.args.value p) c.in-Held.is c.requires.2) in
    subst (λ v. FitsAt g.A.Aggregate c.self.inside.series.entries c.in-Held.index v) (sym (to_z-of_z w64 c.args.value in64))
    (held_fits_at g.A.Aggregate c.requires.0 _ c.requires.1 c.args.value c.in-Held.index ready)

pub add_at-requires-in-New : goal.add_at-requires-in-New
add_at-requires-in-New g c =
    let in64 : SFits w64 c.args.value = search rules in
    let ready = subst (λ t. IsReadyTable g.A.Aggregate c.requires.0 t c.requires.1 c.args.value (New c.in-New.index)) (sym c.self.view_is)
    (subst (λ p. IsReadyTable g.A.Aggregate c.requires.0 c.args.self.now c.requires.1 c.args.value p) c.in-New.is c.requires.2) in
    subst (λ v. FitsAt g.A.Aggregate c.self.inside.series.entries c.in-New.index v) (sym (to_z-of_z w64 c.args.value in64))
    (new_fits_at g.A.Aggregate c.requires.0 _ c.requires.1 c.args.value c.in-New.index ready g.met.A.Aggregate.fits_in_range in64)

pub returns-in-Held-clause-stands : goal.returns-in-Held-clause-stands
returns-in-Held-clause-stands g c = λ old set given.
    let in64 : SFits w64 c.args.value = search rules in
    let ready = subst (λ t. IsReadyTable g.A.Aggregate old t set c.args.value (Held c.in-Held.index)) (sym c.self.view_is)
    (subst (λ p. IsReadyTable g.A.Aggregate old c.args.self.now set c.args.value p) c.in-Held.is given) in
    held_put g.A.Aggregate old _ set c.args.value c.in-Held.index ready c.add_at.new.series.entries
    (subst (λ v. AddsAt g.A.Aggregate c.self.inside.series.entries c.add_at.new.series.entries c.in-Held.index v) (to_z-of_z w64 c.args.value in64) c.add_at.ensures)

pub returns-in-New-clause-stands : goal.returns-in-New-clause-stands
returns-in-New-clause-stands g c = λ old set given.
    let in64 : SFits w64 c.args.value = search rules in
    let ready = subst (λ t. IsReadyTable g.A.Aggregate old t set c.args.value (New c.in-New.index)) (sym c.self.view_is)
    (subst (λ p. IsReadyTable g.A.Aggregate old c.args.self.now set c.args.value p) c.in-New.is given) in
    new_put g.A.Aggregate old _ set c.args.value c.in-New.index ready c.add_at-in-New.new.series.entries
    (subst (λ v. AddsAt g.A.Aggregate c.self.inside.series.entries c.add_at-in-New.new.series.entries c.in-New.index v) (to_z-of_z w64 c.args.value in64) c.add_at-in-New.ensures)

pub add_rest-requires : goal.add_rest-requires
add_rest-requires g c =
    let in64 : SFits w64 c.args.value = search rules in
    let ready = subst (λ t. IsReadyTable g.A.Aggregate c.requires.0 t c.requires.1 c.args.value Overflow) (sym c.self.view_is)
    (subst (λ p. IsReadyTable g.A.Aggregate c.requires.0 c.args.self.now c.requires.1 c.args.value p) c.in-Overflow.is c.requires.2) in
    subst (λ v. FitsRest g.A.Aggregate c.self.inside.overflow v) (sym (to_z-of_z w64 c.args.value in64))
    (rest_fits_at g.A.Aggregate c.requires.0 _ c.requires.1 c.args.value ready)

pub add_rest-requires-in-NewOverflow : goal.add_rest-requires-in-NewOverflow
add_rest-requires-in-NewOverflow g c =
    let in64 : SFits w64 c.args.value = search rules in
    let ready = subst (λ t. IsReadyTable g.A.Aggregate c.requires.0 t c.requires.1 c.args.value NewOverflow) (sym c.self.view_is)
    (subst (λ p. IsReadyTable g.A.Aggregate c.requires.0 c.args.self.now c.requires.1 c.args.value p) c.in-NewOverflow.is c.requires.2) in
    subst (λ v. FitsRest g.A.Aggregate c.self.inside.overflow v) (sym (to_z-of_z w64 c.args.value in64))
    (first_fits_at g.A.Aggregate c.requires.0 _ c.requires.1 c.args.value ready g.met.A.Aggregate.fits_in_range in64)

pub returns-in-Overflow-clause-stands : goal.returns-in-Overflow-clause-stands
returns-in-Overflow-clause-stands g c = λ old set given.
    let in64 : SFits w64 c.args.value = search rules in
    let ready = subst (λ t. IsReadyTable g.A.Aggregate old t set c.args.value Overflow) (sym c.self.view_is)
    (subst (λ p. IsReadyTable g.A.Aggregate old c.args.self.now set c.args.value p) c.in-Overflow.is given) in
    rest_put g.A.Aggregate old _ set c.args.value ready c.add_rest.new.overflow
    (subst (λ v. AddsRest g.A.Aggregate c.self.inside.overflow c.add_rest.new.overflow v) (to_z-of_z w64 c.args.value in64) c.add_rest.ensures)

pub returns-in-NewOverflow-clause-stands : goal.returns-in-NewOverflow-clause-stands
returns-in-NewOverflow-clause-stands g c = λ old set given.
    let in64 : SFits w64 c.args.value = search rules in
    let ready = subst (λ t. IsReadyTable g.A.Aggregate old t set c.args.value NewOverflow) (sym c.self.view_is)
    (subst (λ p. IsReadyTable g.A.Aggregate old c.args.self.now set c.args.value p) c.in-NewOverflow.is given) in
    first_put g.A.Aggregate old _ set c.args.value ready c.add_rest-in-NewOverflow.new.overflow
    (subst (λ v. AddsRest g.A.Aggregate c.self.inside.overflow c.add_rest-in-NewOverflow.new.overflow v) (to_z-of_z w64 c.args.value in64) c.add_rest-in-NewOverflow.ensures)
