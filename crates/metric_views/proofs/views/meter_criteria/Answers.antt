-- The fields in turn, up to the first fault.
use Rattle.std.proofs.Common.{refl}
use Rattle.std.proofs.lemmas.Result.{err_from_is_err_and}
use Rattle.metric_views.specs.Views.{meter_criteria}
use Rattle.metric_views.proofs.views.meter_criteria.Goals as goal

pub returns-in_err-name : goal.returns-in_err-name
unfolding meter_criteria
returns-in_err-name c =
    let p = err_from_is_err_and c.from_residual.result c.from_residual.ensures.1 in
    rw (p.1, p.2) (λ other. let fault = c.in_err-name.ensures other in rw (fault) refl)

pub returns-in_err-version : goal.returns-in_err-version
unfolding meter_criteria
returns-in_err-version c =
    let p = err_from_is_err_and c.from_residual-in_err-version.result c.from_residual-in_err-version.ensures.1 in
    rw (p.1, p.2) (λ other. let fault = c.in_err-version.ensures other in rw (c.in_ok-name.ensures, fault) refl)

pub returns-in_err-schema_url : goal.returns-in_err-schema_url
unfolding meter_criteria
returns-in_err-schema_url c =
    let p = err_from_is_err_and c.from_residual-in_err-schema_url.result c.from_residual-in_err-schema_url.ensures.1 in
    rw (p.1, p.2) (λ other. let fault = c.in_err-schema_url.ensures other in rw (c.in_ok-name.ensures, c.in_ok-version.ensures, fault) refl)

pub returns : goal.returns
unfolding meter_criteria
returns c = rw (c.in_ok-name.ensures, c.in_ok-version.ensures, c.in_ok-schema_url.ensures) refl
