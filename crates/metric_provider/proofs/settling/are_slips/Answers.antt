-- one entry more, and the end
use Rattle.std.proofs.Common.{◌≡◌, Bool, true, false, sym, ◌∙◌}
use Rattle.std.specs.Prelude.{IsTrue}
use Rattle.metric_provider.proofs.EntryLaws.{at_end, other_step, own_step, unlike}
use Rattle.metric_provider.proofs.settling.are_slips.Goals as goal
use Rattle.metric_provider.proofs.settling.are_slips.Goals.{then-entry-recorder+else-not-has_slip_at, else-entry-recorder}

never : {A : Type 0} (b : Bool) → b ≡ true → b ≡ false → A
never b is not = let no : true ≡ false = sym is ∙ not in absurd cc

pub returns-then-not-has_slip_at : goal.returns-then-not-has_slip_at
returns-then-not-has_slip_at c = (
  λ (no : IsTrue false). absurd cc,
  λ all. absurd (unlike c.args.slips.now c.args.entries.now c.args.recorder c.loop-entry.at c.loop-entry.entry-index _ c.loop-entry-test.true c.if-entry-recorder.true
      (λ found. never c.has_slip_at.result (c.has_slip_at.ensures.1 found) c.if-not-has_slip_at.true) c.loop-entry.invariant all),
)

pub loop-entry-preserved : goal.loop-entry-preserved
loop-entry-preserved c =
    elim c.if-entry-recorder.branch [
      | then-entry-recorder+else-not-has_slip_at w ↦
          own_step c.args.slips.now c.args.entries.now c.args.recorder c.loop-entry.at c.if-entry-recorder.at c.loop-entry.entry-index _ c.loop-entry-test.true w.if-entry-recorder.true
          (w.has_slip_at.ensures.0 w.if-not-has_slip_at.false) w.at-is c.loop-entry.invariant
      | else-entry-recorder w ↦
          other_step c.args.slips.now c.args.entries.now c.args.recorder c.loop-entry.at c.if-entry-recorder.at c.loop-entry.entry-index _ c.loop-entry-test.true w.if-entry-recorder.false
          w.at-is c.loop-entry.invariant
    ]

pub returns : goal.returns
returns c =
    at_end c.args.slips.now c.args.entries.now c.args.recorder c.loop-entry.at c.loop-entry.entry-index c.loop-entry-test.false c.loop-entry.invariant
