-- The fields in turn, up to the first fault.
use Rattle.std.proofs.Common.{refl}
use Rattle.std.proofs.lemmas.Result.{err_from_is_err_and}
use Rattle.metric_views.specs.Readers.{choices_by_kind}
use Rattle.metric_views.proofs.by_kind.choices_by_kind.Goals as goal

pub returns-in_err-counter : goal.returns-in_err-counter
unfolding choices_by_kind
returns-in_err-counter g c =
    let p = err_from_is_err_and c.from_residual.result c.from_residual.ensures.1 in
    rw (p.1, p.2, ← c.in_err-counter.ensures) refl

pub returns-in_err-up_down_counter : goal.returns-in_err-up_down_counter
unfolding choices_by_kind
returns-in_err-up_down_counter g c =
    let p = err_from_is_err_and c.from_residual-in_err-up_down_counter.result c.from_residual-in_err-up_down_counter.ensures.1 in
    rw (p.1, p.2, ← c.in_ok-counter.ensures, ← c.in_err-up_down_counter.ensures) refl

pub returns-in_err-histogram : goal.returns-in_err-histogram
unfolding choices_by_kind
returns-in_err-histogram g c =
    let p = err_from_is_err_and c.from_residual-in_err-histogram.result c.from_residual-in_err-histogram.ensures.1 in
    rw (p.1, p.2, ← c.in_ok-counter.ensures, ← c.in_ok-up_down_counter.ensures, ← c.in_err-histogram.ensures) refl

pub returns-in_err-gauge : goal.returns-in_err-gauge
unfolding choices_by_kind
returns-in_err-gauge g c =
    let p = err_from_is_err_and c.from_residual-in_err-gauge.result c.from_residual-in_err-gauge.ensures.1 in
    rw (p.1, p.2, ← c.in_ok-counter.ensures, ← c.in_ok-up_down_counter.ensures, ← c.in_ok-histogram.ensures, ← c.in_err-gauge.ensures) refl

pub returns : goal.returns
unfolding choices_by_kind
returns g c = rw (← c.in_ok-counter.ensures, ← c.in_ok-up_down_counter.ensures, ← c.in_ok-histogram.ensures, ← c.in_ok-gauge.ensures) refl
