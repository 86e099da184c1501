-- The fields in turn, up to the first fault.
use Rattle.std.proofs.Common.{refl}
use Rattle.std.proofs.lemmas.Result.{err_from_is_err_and}
use Rattle.metric_views.specs.Views.{stream_settings}
use Rattle.metric_views.proofs.views.stream_settings.Goals as goal

pub returns-in_err-name : goal.returns-in_err-name
unfolding stream_settings
returns-in_err-name c =
    let p = err_from_is_err_and c.from_residual.result c.from_residual.ensures.1 in
    rw (p.1, p.2) (λ other. let fault = c.in_err-name.ensures other in rw (fault) refl)

pub returns-in_err-description : goal.returns-in_err-description
unfolding stream_settings
returns-in_err-description c =
    let p = err_from_is_err_and c.from_residual-in_err-description.result c.from_residual-in_err-description.ensures.1 in
    rw (p.1, p.2) (λ other. let fault = c.in_err-description.ensures other in rw (c.in_ok-name.ensures, fault) refl)

pub returns-in_err-aggregation : goal.returns-in_err-aggregation
unfolding stream_settings
returns-in_err-aggregation c =
    let p = err_from_is_err_and c.from_residual-in_err-aggregation.result c.from_residual-in_err-aggregation.ensures.1 in
    rw (p.1, p.2) (λ other. let fault = c.in_err-aggregation.ensures other in rw (c.in_ok-name.ensures, c.in_ok-description.ensures, fault) refl)

pub returns : goal.returns
unfolding stream_settings
returns c = rw (c.in_ok-name.ensures, c.in_ok-description.ensures, c.in_ok-aggregation.ensures) refl
