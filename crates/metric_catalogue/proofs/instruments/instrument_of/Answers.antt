-- each exit
use Rattle.std.proofs.Common.{List, ℕ, map, refl, sym, ap, ◌∙◌}
use Rattle.std.proofs.lemmas.Result.{err_from_is_err_and}
use Rattle.std.specs.List.{list_any}
use Rattle.toml.specs.View.{table_view}
use Rattle.metric_catalogue.specs.Instruments.{instrument_of, is_instrument}
use Rattle.metric_catalogue.specs.Unsaid.{unsaid}
use Rattle.metric_catalogue.proofs.instruments.instrument_of.Goals as goal

pub returns-in_err-head : goal.returns-in_err-head
unfolding instrument_of
returns-in_err-head c =
    let p = err_from_is_err_and c.from_residual.result c.from_residual.ensures.1 in
    rw (p.1, p.2) (λ other. rw (c.in_err-head.ensures other) refl)

pub returns-in_err-range : goal.returns-in_err-range
unfolding instrument_of
returns-in_err-range c =
    let p = err_from_is_err_and c.from_residual-in_err-range.result c.from_residual-in_err-range.ensures.1 in
    let range = sym c.range_field.ensures ∙ c.in_err-range.was in
    rw (p.1, p.2) (λ other. rw (c.in_ok-head.ensures, range) refl)

pub returns-in_err-advice : goal.returns-in_err-advice
unfolding instrument_of
returns-in_err-advice c =
    let p = err_from_is_err_and c.from_residual-in_err-advice.result c.from_residual-in_err-advice.ensures.1 in
    let range = sym c.range_field.ensures ∙ c.in_ok-range.was in
    rw (p.1, p.2) (λ other. rw (c.in_ok-head.ensures, range, c.in_err-advice.ensures other) refl)

pub returns-in_err-limits : goal.returns-in_err-limits
unfolding instrument_of
returns-in_err-limits c =
    let p = err_from_is_err_and c.from_residual-in_err-limits.result c.from_residual-in_err-limits.ensures.1 in
    let range = sym c.range_field.ensures ∙ c.in_ok-range.was in
    let taken = sym (c.has_instrument-is_taken.ensures ∙ ap (λ (name : List ℕ). list_any (is_instrument c.args.meter name) c.args.before.now) c.get-name.ensures) in
    let spare = sym (c.in_ok-otherwise.ensures.exact
    ∙ ap (λ (name : List ℕ). unsaid c.args.format (map (λ t. table_view t.now) c.args.recorders.now) c.args.meter_name.now name c.in_ok-head.head.kind c.in_ok-range.range) c.get-name.ensures) in
    rw (p.1, p.2) (λ other. rw (c.in_ok-head.ensures, range, c.in_ok-advice.ensures, taken, spare, c.in_err-limits.ensures other) refl)

pub returns : goal.returns
unfolding instrument_of
returns c =
    let range = sym c.range_field.ensures ∙ c.in_ok-range.was in
    let taken = sym (c.has_instrument-is_taken.ensures ∙ ap (λ (name : List ℕ). list_any (is_instrument c.args.meter name) c.args.before.now) c.get-name.ensures) in
    let spare = sym (c.in_ok-otherwise.ensures.exact
    ∙ ap (λ (name : List ℕ). unsaid c.args.format (map (λ t. table_view t.now) c.args.recorders.now) c.args.meter_name.now name c.in_ok-head.head.kind c.in_ok-range.range) c.get-name.ensures) in
    rw (c.in_ok-head.ensures, range, c.in_ok-advice.ensures, taken, spare, c.in_ok-limits.ensures, c.instrument.ensures) refl
