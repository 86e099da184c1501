-- the fields that were put are read back
use Rattle.std.proofs.Common.{lit≤}
use Rattle.metric_cert.proofs.Tabled.{none_printable, order_written, put_printable, when_ok}
use Rattle.metric_cert.proofs.order.OrderTableFields.put.Goals as goal

pub returns-clause-reads : goal.returns-clause-reads
returns-clause-reads c =
    when_ok _ c.put-2.ensures (order_written c.args.entry.now _ _ _ c.requires c.in_ok-put.ensures)

pub returns-clause-printable : goal.returns-clause-printable
returns-clause-printable c =
    let one = put_printable 1 (lit≤ tt) (none_printable _ 1 c.requires) c.in_ok-put.ensures in
    when_ok _ c.put-2.ensures (put_printable 1 (lit≤ tt) one)
