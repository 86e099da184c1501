-- the last two exits
use Rattle.std.proofs.Common.{refl, sym, ◌∙◌}
use Rattle.std.proofs.lemmas.Result.{err_from_is_err_and}
use Rattle.metric_catalogue.specs.Instruments.{head_of}
use Rattle.metric_catalogue.proofs.instruments.head_of.Goals as goal

pub returns-in_err-description : goal.returns-in_err-description
unfolding head_of
returns-in_err-description c =
    let p = err_from_is_err_and c.from_residual-in_err-description.result c.from_residual-in_err-description.ensures.1 in
    let kind = sym c.kind_field.ensures ∙ c.in_ok-kind.was in
    rw (p.1, p.2) (λ other. rw (c.in_ok-name.ensures, kind, c.in_ok-unit.ensures, c.in_err-description.ensures other) refl)

pub returns : goal.returns
unfolding head_of
returns c =
    let kind = sym c.kind_field.ensures ∙ c.in_ok-kind.was in
    rw (c.in_ok-name.ensures, kind, c.in_ok-unit.ensures, c.in_ok-description.ensures) refl
