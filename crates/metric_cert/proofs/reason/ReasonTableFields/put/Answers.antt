-- the fields that were put are read back
use Rattle.std.proofs.Common.{lit≤}
use Rattle.metric_cert.proofs.Tabled.{evidence_printable, none_printable, put_printable, reason_written, when_ok}
use Rattle.metric_cert.proofs.reason.ReasonTableFields.put.Goals as goal

pub returns-clause-reads : goal.returns-clause-reads
returns-clause-reads c =
    let reason = c.args.entry.now in
    when_ok _ c.put_evidence.ensures
    (reason_written reason.view reason.instrument reason.evidence _ _ _ _ c.requires c.in_ok-put.ensures c.in_ok-put-2.ensures)

pub returns-clause-printable : goal.returns-clause-printable
returns-clause-printable c =
    let one = put_printable 2 (lit≤ tt) (none_printable _ 2 c.requires) c.in_ok-put.ensures in
    let two = put_printable 2 (lit≤ tt) one c.in_ok-put-2.ensures in
    when_ok _ c.put_evidence.ensures (evidence_printable c.args.entry.now.evidence _ _ two)
