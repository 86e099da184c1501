-- a recorder with its budgets, or their fault
use Rattle.std.proofs.Common.{refl}
use Rattle.std.proofs.lemmas.Result.{err_from_is_err_and}
use Rattle.metric_catalogue.specs.Recorders.{recorder_of}
use Rattle.metric_catalogue.proofs.recorders.recorder_of.Goals as goal

pub returns-in_err-budgets : goal.returns-in_err-budgets
unfolding recorder_of
returns-in_err-budgets c =
    let p = err_from_is_err_and c.from_residual-in_err-budgets.result c.from_residual-in_err-budgets.ensures.1 in
    rw (p.1, p.2) (λ other. rw (c.in_ok-name.ensures, ← c.has_recorder-is_taken.ensures, c.in_err-budgets.ensures other) refl)

pub returns : goal.returns
unfolding recorder_of
returns c = rw (c.in_ok-name.ensures, ← c.has_recorder-is_taken.ensures, c.in_ok-budgets.ensures) refl
