-- the byte is the text
use Rattle.std.proofs.Common.{◌≡◌, arith, get_or, ◌∙◌}
use Rattle.std.proofs.lemmas.Grind.{common_steps}
use Rattle.metric_contents.proofs.Words.{ones}
use Rattle.metric_contents.proofs.packed.of_one.Goals as goal
use Rattle.metric_contents.proofs.packed.of_one.Goals.{then-is_empty, else-is_empty}

pub returns : goal.returns
returns c =
    let first : c.if-is_empty.first ≡ get_or c.args.bytes.now 0 0 = elim c.if-is_empty.branch [ then-is_empty w ↦ grind (arith, common_steps) | else-is_empty w ↦ grind (arith, common_steps) ] in
    ones c.args.bytes.now c.from.result c.requires (c.from.ensures ∙ first)
