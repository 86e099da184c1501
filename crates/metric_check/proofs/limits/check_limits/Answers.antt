-- an entry too many, or too few
use Rattle.std.proofs.Common.{◌≡◌, ℕ, Some, None, length, slice_get, refl, ap, arith, ◌∙◌}
use Rattle.std.proofs.lemmas.Option.{slice_get_read}
use Rattle.metric_plan.specs.declared.fault.CheckFault.TheVariants.{BadSets}
use Rattle.metric_check.specs.Findings.{LimitFinds, of_stream}
use Rattle.metric_check.proofs.Bounded.{listed_more}
use Rattle.metric_check.proofs.Walks.{onward_missing, onward_more, onward_next}
use Rattle.metric_check.proofs.limits.check_limits.Goals as goal

pub returns-then-number-streams : goal.returns-then-number-streams
returns-then-number-streams c =
    λ other.
    onward_more of_stream (LimitFinds c.args.catalogue.now) BadSets BadSets c.args.streams.now c.args.entries.now c.loop-number.number _ (omega arith) (omega arith) c.at_entry.ensures c.loop-number.invariant.onward

pub returns-then-entries-streams : goal.returns-then-entries-streams
returns-then-entries-streams c =
    λ other.
    let ended : length c.args.entries.now ≡ c.loop-number.number = omega arith in
    onward_missing of_stream (LimitFinds c.args.catalogue.now) BadSets BadSets c.args.streams.now c.args.entries.now c.loop-number.number _ (omega arith) (omega arith)
    (c.at_entry-then-entries-streams.ensures ∙ ap (λ (n : ℕ). of_stream n BadSets) ended) c.loop-number.invariant.onward

pub loop-number-preserved : goal.loop-number-preserved
loop-number-preserved c =
    let contents = c.args.catalogue.now in
    let streams = c.args.streams.now in
    let entries = c.args.entries.now in
    let n = c.loop-number.number in
    let s = c.index-streams-number.result in
    let e = c.index-entries-number.result in
    let at : slice_get streams n ≡ Some s = slice_get_read streams (length streams) n s refl (omega arith) c.index-streams-number.is in
    let own : slice_get entries n ≡ Some e = slice_get_read entries (length entries) n e refl (omega arith) c.index-entries-number.is in
    let none : LimitFinds contents s e None = c.in_ok-check_limit_at.ensures in
    record {
      onward = onward_next of_stream (LimitFinds contents) BadSets BadSets streams entries n s e at own none c.loop-number.invariant.onward;
      listed = listed_more contents streams entries n s e c.loop-number.invariant.listed at own none.0.0;
    }
