use Rattle.std.proofs.Common.{rules}
use Rattle.metric_setup.proofs.SetupLaws.{made_plan}
use Rattle.metric_setup.proofs.setup.certified_plan.Goals as goal

pub returns-in_err-config-clause-first : goal.returns-in_err-config-clause-first
returns-in_err-config-clause-first c = search rules

pub returns-in_err-certificate-clause-first : goal.returns-in_err-certificate-clause-first
returns-in_err-certificate-clause-first c = search rules

pub returns-clause-plan : goal.returns-clause-plan
returns-clause-plan c =
    made_plan c.args.catalogue_text.now c.args.config_text.now c.in_ok-catalogue.catalogue c.in_ok-config.config c.in_ok-certificate.certificate c.checked_plan.result
    (record { is_catalogue = c.in_ok-catalogue.ensures; is_config = c.in_ok-config.ensures }) c.in_ok-certificate.ensures c.checked_plan.ensures.plan
