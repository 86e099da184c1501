-- an entry too many, or too few
use Rattle.std.proofs.Common.{◌≡◌, ℕ, length, ap, arith, ◌∙◌}
use Rattle.metric_plan.specs.declared.fault.CheckFault.TheVariants.{StreamMissing, StreamStrange}
use Rattle.metric_check.specs.Findings.{EntryFinds, of_stream}
use Rattle.metric_check.proofs.Walks.{onward_missing, onward_more}
use Rattle.metric_check.proofs.entries.check_entries.Goals as goal

pub returns-then-number-streams : goal.returns-then-number-streams
returns-then-number-streams c =
    onward_more of_stream EntryFinds StreamMissing StreamStrange c.args.streams.now c.args.entries.now c.loop-number.number _ (omega arith) (omega arith) c.at_entry.ensures c.loop-number.invariant

pub returns-then-entries-streams : goal.returns-then-entries-streams
returns-then-entries-streams c =
    let ended : length c.args.entries.now ≡ c.loop-number.number = omega arith in
    onward_missing of_stream EntryFinds StreamMissing StreamStrange c.args.streams.now c.args.entries.now c.loop-number.number _ (omega arith) (omega arith)
    (c.at_entry-then-entries-streams.ensures ∙ ap (λ (n : ℕ). of_stream n StreamMissing) ended) c.loop-number.invariant
