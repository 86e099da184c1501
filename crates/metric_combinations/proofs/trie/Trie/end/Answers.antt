-- each step leaves a way to the same end
use Rattle.std.proofs.Common.{◌<◌, length, take, sym, ◌∙◌, arith}
use Rattle.metric_combinations.proofs.Finding.{end_some, end_none}
use Rattle.metric_combinations.proofs.trie.Trie.end.Goals as goal

pub returns-in_err-at : goal.returns-in_err-at
returns-in_err-at c =
    let entries = take c.args.self.now.depth c.args.set.now in
    let below : c.loop-entry.entry-index < length entries = omega arith in
    c.from_residual.ensures ∙ end_none c.args.self.now.steps.items entries c.loop-entry.at c.loop-entry.entry-index _ below c.loop-entry.invariant (sym c.step.ensures ∙ c.in_err-at.was)

pub loop-entry-preserved : goal.loop-entry-preserved
loop-entry-preserved c =
    let entries = take c.args.self.now.depth c.args.set.now in
    let below : c.loop-entry.entry-index < length entries = omega arith in
    end_some c.args.self.now.steps.items entries c.loop-entry.at c.loop-entry.entry-index c.in_ok-at.at _ below c.loop-entry.invariant (sym c.step.ensures ∙ c.in_ok-at.was)
