-- one line more
use Rattle.std.proofs.Common.{◌<◌, sym, ◌∙◌, arith}
use Rattle.metric_lint.proofs.Headers.{after_header, after_other, found_here, none_left}
use Rattle.metric_lint.proofs.position.nth_header.Goals as goal
use Rattle.metric_lint.proofs.position.nth_header.Goals.{then-begins+else-left-eq0, else-begins}

pub returns-then-left-eq0 : goal.returns-then-left-eq0
returns-then-left-eq0 c =
    found_here c.args.header.now c.args.lines.now c.loop-before.before _ c.loop-before.left c.indent_of.result _ c.loop-before-test.true (sym c.begins.ensures ∙ c.if-begins.true) c.if-left-eq0.true
    c.indent_of.ensures.value c.loop-before.invariant

pub loop-before-preserved : goal.loop-before-preserved
loop-before-preserved c =
    elim c.if-begins.branch [
      | then-begins+else-left-eq0 w ↦
          (let some : 0 < c.loop-before.left = omega arith in
          after_header c.args.header.now c.args.lines.now c.loop-before.before _ c.loop-before.left c.if-begins.left _ c.loop-before-test.true (sym c.begins.ensures ∙ w.if-begins.true) some w.left-is
          c.loop-before.invariant)
      | else-begins w ↦
          after_other c.args.header.now c.args.lines.now c.loop-before.before _ c.loop-before.left c.if-begins.left _ c.loop-before-test.true (sym c.begins.ensures ∙ w.if-begins.false) w.left-is
          c.loop-before.invariant
    ]

pub returns : goal.returns
returns c = none_left c.args.header.now c.args.lines.now c.loop-before.before c.loop-before.left _ c.loop-before-test.false c.loop-before.invariant
