-- the words stand for the text
use Rattle.std.proofs.Common.{rules, ap, ◌∙◌, List, ℕ, w64}
use Rattle.std.specs.Int.{from_le_bytes}
use Rattle.metric_contents.proofs.Words.{eights}
use Rattle.metric_contents.proofs.packed.by_eights.Goals as goal

pub returns : goal.returns
returns c =
    eights c.args.bytes.now c.from_le_bytes.result c.from_le_bytes-2.result (search rules) c.requires (search rules)
    (c.from_le_bytes.ensures ∙ ap (λ (bs : List ℕ). from_le_bytes w64 bs) c.in_ok-first.ensures.cases.0) (c.from_le_bytes-2.ensures ∙ ap (λ (bs : List ℕ). from_le_bytes w64 bs) c.in_ok-last.ensures.cases.1)
