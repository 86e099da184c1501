-- flags are equal where they are the same
use Rattle.std.proofs.Common.{sym, ◌∙◌}
use Rattle.metric_check.proofs.Bounded.{same_flags}
use Rattle.metric_check.proofs.limits.is_like.Goals as goal

pub returns-then-stream-other : goal.returns-then-stream-other
returns-then-stream-other c = λ t. record {
  instrument = c.if-stream-other.true;
  kept =
      sym (c.as_slice.ensures.items ∙ c.get.ensures) ∙ same_flags c.as_slice.result.now c.as_slice-then-stream-other.result.now c.eq.result c.eq.ensures t
      ∙ c.as_slice-then-stream-other.ensures.items ∙ c.get-then-stream-other.ensures;
}
