-- the reasons that were checked are true, so they show which views select which instruments
use Rattle.metric_plan.specs.declared.fault.CheckFault.TheVariants.{PairMissing}
use Rattle.metric_check.proofs.EvidenceLaws.{all_show}
use Rattle.metric_check.proofs.Validity.{reasons_true}
use Rattle.metric_check.proofs.certificates.checked_streams.Goals as goal

pub invariant_of-selection : goal.invariant_of-selection
invariant_of-selection c =
    let contents = c.args.catalogue.now in
    let config = c.args.config.now in
    let reasons = c.as_slice-reasons.result.now in
    record { shown = all_show contents config reasons (reasons_true contents config reasons PairMissing PairMissing c.in_ok-check_reasons.ensures) }
