-- what a suffix leaves
use Rattle.std.proofs.Common.{ℕ, List, Bor, ap, ◌∙◌}
use Rattle.metric_text.proofs.Splits.{without_return-strip_suffix}
use Rattle.metric_text.proofs.line.without_return.Goals as goal

pub returns : goal.returns
returns c =
    ap (λ (b : Bor (List ℕ)). b.now) c.unwrap_or.ensures
    ∙ without_return-strip_suffix c.args.line c.as_slice.result.now c.strip_suffix.result c.as_slice.ensures c.strip_suffix.ensures.cases
