-- The write took the front of what was left, and since it took some it was no failure.
use Rattle.std.proofs.Common.{sym, ◌∙◌, arith}
use Rattle.metric_io.specs.Prefix.{AppendsPrefix-more}
use Rattle.metric_io.proofs.whole.write_all.Goals as goal

pub loop-rest-preserved : goal.loop-rest-preserved
loop-rest-preserved g c =
    let before = c.loop-rest.invariant in
    let more = AppendsPrefix-more _ _ _ _ _ _ before.taken.0 before.taken.1 c.in_ok-taken.ensures.bytes in
    record {
      taken = (more.0, more.1 ∙ sym c.split_at.ensures.back);
      failures = c.in_ok-taken.ensures.failures.0 (omega arith) ∙ before.failures;
    }
