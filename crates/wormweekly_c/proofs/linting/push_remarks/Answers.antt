-- one line more
use Rattle.std.proofs.Common.{List, subst}
use Rattle.std.proofs.lemmas.List.{take_all}
use Rattle.metric_lint.specs.declared.remark.Remark.{Remark}
use Rattle.wormweekly_c.proofs.LintLaws.{line_at, no_line}
use Rattle.wormweekly_c.specs.Linting.{PushesLines}
use Rattle.wormweekly_c.proofs.linting.push_remarks.Goals as goal

pub loop-remark-init : goal.loop-remark-init
loop-remark-init c =
    no_line c.args.pair c.args.out.now.items

pub loop-remark-preserved : goal.loop-remark-preserved
loop-remark-preserved c =
    line_at c.args.pair c.args.remarks.now c.loop-remark.remark-index _ c.args.out.now.items c.loop-remark.out.items c.push_remark.new.out.items c.loop-remark-test.true
    c.loop-remark.invariant c.in_ok-push_remark.ensures

pub returns : goal.returns
returns c =
    subst (λ (told : List Remark). PushesLines c.args.pair told c.args.out.now.items c.loop-remark.out.items)
    (take_all c.loop-remark.remark-index c.args.remarks.now c.loop-remark-test.false) c.loop-remark.invariant
