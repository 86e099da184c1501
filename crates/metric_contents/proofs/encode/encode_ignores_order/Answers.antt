use Rattle.metric_contents.proofs.OrderLaws.{encode_same}
use Rattle.metric_contents.proofs.encode.encode_ignores_order.Goals as goal

pub returns : goal.returns
returns c = λ instruments number attrs others perm. encode_same attrs others perm instruments number
