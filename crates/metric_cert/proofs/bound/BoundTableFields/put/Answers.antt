-- the fields that were put are read back
use Rattle.std.proofs.Common.{lit≤}
use Rattle.metric_cert.proofs.Tabled.{bound_written, none_printable, put_printable, when_ok}
use Rattle.metric_cert.proofs.bound.BoundTableFields.put.Goals as goal

pub returns-clause-reads : goal.returns-clause-reads
returns-clause-reads c =
    when_ok _ c.put-5.ensures
    (bound_written c.args.entry.now _ _ _ _ _ _ c.requires c.in_ok-put.ensures c.in_ok-put-2.ensures c.in_ok-put-3.ensures c.in_ok-put-4.ensures)

pub returns-clause-printable : goal.returns-clause-printable
returns-clause-printable c =
    let one = put_printable 0 (lit≤ tt) (none_printable _ 0 c.requires) c.in_ok-put.ensures in
    let two = put_printable 0 (lit≤ tt) one c.in_ok-put-2.ensures in
    let three = put_printable 0 (lit≤ tt) two c.in_ok-put-3.ensures in
    let four = put_printable 0 (lit≤ tt) three c.in_ok-put-4.ensures in
    when_ok _ c.put-5.ensures (put_printable 0 (lit≤ tt) four)
