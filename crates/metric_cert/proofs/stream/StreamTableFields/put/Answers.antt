-- the fields that were put are read back
use Rattle.std.proofs.Common.{lit≤}
use Rattle.metric_cert.proofs.Tabled.{given_printable, list_printable, none_printable, put_printable, stream_written, when_ok, word_put}
use Rattle.metric_cert.proofs.stream.StreamTableFields.put.Goals as goal

pub returns-clause-reads : goal.returns-clause-reads
returns-clause-reads c =
    let stream = c.args.entry.now in
    let by = word_put _ _ _ _ c.word.ensures c.in_ok-put-3.ensures in
    when_ok _ c.put-4.ensures
    (stream_written stream.reader stream.instrument stream.view stream.by stream.sets _ _ _ _ _ _ _ c.requires c.in_ok-put.ensures c.in_ok-put-2.ensures c.in_ok-put_given.ensures by c.in_ok-put_list.ensures)

pub returns-clause-printable : goal.returns-clause-printable
returns-clause-printable c =
    let one = put_printable 2 (lit≤ tt) (none_printable _ 2 c.requires) c.in_ok-put.ensures in
    let two = put_printable 2 (lit≤ tt) one c.in_ok-put-2.ensures in
    let three = given_printable _ _ _ _ _ _ 2 (lit≤ tt) two c.in_ok-put_given.ensures in
    let four = put_printable 2 (lit≤ tt) three c.in_ok-put-3.ensures in
    let five = list_printable _ _ _ four c.in_ok-put_list.ensures in
    when_ok _ c.put-4.ensures (put_printable 2 (lit≤ tt) five)
