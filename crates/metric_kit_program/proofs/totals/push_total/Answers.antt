use Rattle.std.proofs.Common.{codes}
use Rattle.metric_text.specs.Lists.{numbered}
use Rattle.metric_kit_program.proofs.TotalLaws.{third_pushed}
use Rattle.metric_kit_program.specs.Threading.{sum_text}
use Rattle.metric_kit_program.proofs.totals.push_total.Goals as goal

pub returns : goal.returns
returns c =
    third_pushed c.push_sum.result _ _ _ _ (numbered (codes "instrument ") c.args.instrument) (numbered (codes " count ") c.args.total.now.count)
    (sum_text c.args.total.now.sum) c.in_ok-push_numbered.ensures c.in_ok-push_numbered-2.ensures c.push_sum.ensures
