-- The first fault is that of the list.
use Rattle.std.proofs.Common.{◌∙◌, List, ap, sym}
use Rattle.metric_exposure.specs.declared.fault.ExposureFault.{ExposureFault}
use Rattle.wormweekly_commands.specs.Paging.{exposed_by}
use Rattle.wormweekly_commands.proofs.paging.exposed.Goals as goal

pub returns-in-Ok : goal.returns-in-Ok
returns-in-Ok c =
    ap (λ (faults : List ExposureFault). exposed_by faults c.args.reader) (sym (c.as_slice.ensures.value ∙ c.in_ok-faults.ensures))
    ∙ sym c.exposed_by.ensures ∙ c.in-Ok.is

pub returns : goal.returns
returns c =
    ap (λ (faults : List ExposureFault). exposed_by faults c.args.reader) (sym (c.as_slice.ensures.value ∙ c.in_ok-faults.ensures))
    ∙ sym c.exposed_by.ensures ∙ c.in-Err.is
