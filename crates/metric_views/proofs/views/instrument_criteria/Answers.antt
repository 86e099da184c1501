-- The fields in turn, up to the first fault.
use Rattle.std.proofs.Common.{refl}
use Rattle.std.proofs.lemmas.Result.{err_from_is_err_and}
use Rattle.metric_views.specs.Views.{instrument_criteria}
use Rattle.metric_views.proofs.views.instrument_criteria.Goals as goal

pub returns-in_err-name : goal.returns-in_err-name
unfolding instrument_criteria
returns-in_err-name c =
    let p = err_from_is_err_and c.from_residual.result c.from_residual.ensures.1 in
    rw (p.1, p.2) (λ other. let fault = c.in_err-name.ensures other in rw (fault) refl)

pub returns-in_err-kind : goal.returns-in_err-kind
unfolding instrument_criteria
returns-in_err-kind c =
    let p = err_from_is_err_and c.from_residual-in_err-kind.result c.from_residual-in_err-kind.ensures.1 in
    rw (p.1, p.2) (λ other. let fault = c.in_err-kind.ensures other in rw (c.in_ok-name.ensures, fault) refl)

pub returns-in_err-unit : goal.returns-in_err-unit
unfolding instrument_criteria
returns-in_err-unit c =
    let p = err_from_is_err_and c.from_residual-in_err-unit.result c.from_residual-in_err-unit.ensures.1 in
    rw (p.1, p.2) (λ other. let fault = c.in_err-unit.ensures other in rw (c.in_ok-name.ensures, c.in_ok-kind.ensures, fault) refl)

pub returns : goal.returns
unfolding instrument_criteria
returns c = rw (c.in_ok-name.ensures, c.in_ok-kind.ensures, c.in_ok-unit.ensures) refl
