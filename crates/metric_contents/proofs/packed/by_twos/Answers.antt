-- the words stand for the text
use Rattle.std.proofs.Common.{rules, ap, ◌∙◌, List, ℕ, w16}
use Rattle.std.specs.Int.{from_le_bytes}
use Rattle.metric_contents.proofs.Words.{twos}
use Rattle.metric_contents.proofs.packed.by_twos.Goals as goal

pub returns : goal.returns
returns c =
    twos c.args.bytes.now c.from.result c.from-2.result (search rules) c.requires (search rules)
    ((c.from.ensures ∙ c.from_le_bytes.ensures) ∙ ap (λ (bs : List ℕ). from_le_bytes w16 bs) c.in_ok-first.ensures.cases.0) ((c.from-2.ensures ∙ c.from_le_bytes-2.ensures) ∙ ap (λ (bs : List ℕ). from_le_bytes w16 bs) c.in_ok-last.ensures.cases.1)
