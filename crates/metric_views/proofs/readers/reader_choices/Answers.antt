-- The fields in turn, up to the first fault.
use Rattle.std.proofs.Common.{refl}
use Rattle.std.proofs.lemmas.Result.{err_from_is_err_and}
use Rattle.metric_views.specs.Readers.{reader_choices}
use Rattle.metric_views.proofs.readers.reader_choices.Goals as goal

pub returns-in_err-temporality : goal.returns-in_err-temporality
unfolding reader_choices
returns-in_err-temporality c =
    let p = err_from_is_err_and c.from_residual.result c.from_residual.ensures.1 in
    rw (p.1, p.2, ← c.in_err-temporality.ensures) refl

pub returns-in_err-aggregation : goal.returns-in_err-aggregation
unfolding reader_choices
returns-in_err-aggregation c =
    let p = err_from_is_err_and c.from_residual-in_err-aggregation.result c.from_residual-in_err-aggregation.ensures.1 in
    rw (p.1, p.2, ← c.in_ok-temporality.ensures, ← c.in_err-aggregation.ensures) refl

pub returns-in_err-limit : goal.returns-in_err-limit
unfolding reader_choices
returns-in_err-limit c =
    let p = err_from_is_err_and c.from_residual-in_err-limit.result c.from_residual-in_err-limit.ensures.1 in
    rw (p.1, p.2, ← c.in_ok-temporality.ensures, ← c.in_ok-aggregation.ensures, ← c.in_err-limit.ensures) refl

pub returns : goal.returns
unfolding reader_choices
returns c = rw (← c.in_ok-temporality.ensures, ← c.in_ok-aggregation.ensures, ← c.in_ok-limit.ensures) refl
