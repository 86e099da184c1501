-- the text is read as the certificate
use Rattle.std.proofs.Common.{string_bytes}
use Rattle.metric_cert.proofs.Printed.{certificate_printed}
use Rattle.metric_cert.proofs.certificate.Certificate.write.Goals as goal

pub returns : goal.returns
returns c =
    rw (← c.self.view_is)
    (certificate_printed c.self.inside.claims (string_bytes c.new-text.result) (string_bytes c.push_pairs.new.text) (string_bytes c.push_lists.new.text) c.new-text.ensures.bytes c.in_ok-push_pairs.ensures
    c.in_ok-push_lists.ensures c.self.invariant)
