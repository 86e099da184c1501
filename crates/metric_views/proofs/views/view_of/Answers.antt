-- The steps in turn, up to the first fault.
use Rattle.std.proofs.Common.{refl}
use Rattle.std.proofs.lemmas.Result.{err_from_is_err_and}
use Rattle.metric_views.specs.Views.{view_of}
use Rattle.metric_views.proofs.FieldNames.{view_fields-are}
use Rattle.metric_views.proofs.views.view_of.Goals as goal

pub returns-in_err-only : goal.returns-in_err-only
unfolding view_of
returns-in_err-only c =
    let p = err_from_is_err_and c.from_residual.result c.from_residual.ensures.1 in
    let known = rw (c.unknown_at.ensures, view_fields-are) at c.in_err-only.ensures in
    rw (p.1, p.2) (λ other. rw (← known) refl)

pub returns-in_err-criteria : goal.returns-in_err-criteria
unfolding view_of
returns-in_err-criteria c =
    let p = err_from_is_err_and c.from_residual-in_err-criteria.result c.from_residual-in_err-criteria.ensures.1 in
    let known = rw (c.unknown_at.ensures, view_fields-are) at c.in_ok-only.ensures in
    rw (p.1, p.2) (λ other. let fault = c.in_err-criteria.ensures other in rw (← known, fault) refl)

pub returns-in_err-settings : goal.returns-in_err-settings
unfolding view_of
returns-in_err-settings c =
    let p = err_from_is_err_and c.from_residual-in_err-settings.result c.from_residual-in_err-settings.ensures.1 in
    let known = rw (c.unknown_at.ensures, view_fields-are) at c.in_ok-only.ensures in
    rw (p.1, p.2) (λ other. let fault = c.in_err-settings.ensures other in rw (← known, c.in_ok-criteria.ensures, fault) refl)

pub returns : goal.returns
unfolding view_of
returns c =
    let known = rw (c.unknown_at.ensures, view_fields-are) at c.in_ok-only.ensures in
    rw (← known, c.in_ok-criteria.ensures, c.in_ok-settings.ensures) refl
