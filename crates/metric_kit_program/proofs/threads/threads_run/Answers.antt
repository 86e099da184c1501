use Rattle.std.proofs.Common.{List, Err, ap, subst, sym}
use Rattle.std.proofs.KnownBytes.{Keeps-refl}
use Rattle.metric_seat.specs.declared.total.Total.{Total}
use Rattle.metric_kit_commands.specs.RunLaws.{answered, refused, unread}
use Rattle.metric_kit_program.specs.Threading.{IsCounted, totals_text}
use Rattle.metric_kit_program.proofs.threads.threads_run.Goals as goal

pub returns-in_err-input : goal.returns-in_err-input
returns-in_err-input g c =
    unread _ _ _ _ c.in_err-input.field-0.0 c.from_residual.result c.from_residual.ensures.1
    (λ e. c.in_err-input.ensures.read (ap (λ fault. Err fault) e)) (Keeps-refl _) c.read_all.ensures.reads

pub returns-in_err-totals : goal.returns-in_err-totals
returns-in_err-totals g c =
    refused _ _ _ _ c.in_err-totals.field-0.0 c.from_residual-in_err-totals.result c.in_ok-input.input.items c.deref.result.now
    c.from_residual-in_err-totals.ensures.1 c.in_ok-input.ensures.bytes c.deref.ensures.value c.in_err-totals.ensures.first c.in_err-totals.ensures.own
    (Keeps-refl _) c.read_all.ensures.reads

pub returns : goal.returns
returns g c =
    answered _ _ _ _ c.write_totals.result c.in_ok-input.input.items c.deref.result.now (totals_text c.deref-2.result.now)
    c.in_ok-input.ensures.bytes c.deref.ensures.value
    (subst (λ (totals : List Total). IsCounted c.deref.result.now (totals_text totals)) (sym c.deref-2.ensures.value) c.in_ok-totals.ensures.ok)
    c.write_totals.ensures.ok c.write_totals.ensures.prefix c.write_totals.ensures.broken c.read_all.ensures.reads
