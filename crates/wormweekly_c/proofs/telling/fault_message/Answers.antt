-- a fault of a certificate is told of its file
use Rattle.std.proofs.Common.{sym, subst, ◌∙◌}
use Rattle.std.specs.String.{string_bytes}
use Rattle.metric_setup.specs.declared.fault.SetupFault.{SetupFault}
use Rattle.wormweekly_c.specs.Telling.{TellsFault}
use Rattle.wormweekly_c.proofs.TellingLaws.{if_ok_then, in_certificate}
use Rattle.wormweekly_c.proofs.telling.fault_message.Goals as goal

pub returns-in_ok-told-in-Certificate-clause-told : goal.returns-in_ok-told-in-Certificate-clause-told
returns-in_ok-told-in-Certificate-clause-told c =
    let told = c.in_ok-told-in-Certificate.told in
    if_ok_then _ _ c.written-in-Certificate.result c.written-in-Certificate.ensures
    (λ text is. subst (λ (fault : SetupFault). TellsFault c.args.catalogue.now c.args.config.now fault text.items) (sym c.in-Certificate.is)
    (in_certificate told.file.now (string_bytes told.words) told.position text.items
    (c.in_ok-told-in-Certificate.ensures.file ∙ c.certificate_source.ensures.name) is))
