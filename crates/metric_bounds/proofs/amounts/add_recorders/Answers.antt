-- one recorder more
use Rattle.std.proofs.Common.{◌≡◌, ◌<◌, ◌+◌, ℕ, length, get_or, take, take_all, sym, ap, subst, refl, ◌∙◌, arith}
use Rattle.std.specs.Prelude.{List, find, sum_by}
use Rattle.std.proofs.lemmas.List.Elements.{All-get_or}
use Rattle.std.proofs.lemmas.List.Sums.{sum_by_more}
use Rattle.metric_contents.specs.declared.contents.Budget.{Budget}
use Rattle.metric_contents.specs.declared.contents.Recorder.{Recorder}
use Rattle.metric_contents.specs.Budgets.{amount_in, amount_of}
use Rattle.metric_contents.specs.Budgets.{is_budget}
use Rattle.metric_catalogue.specs.Sound.{IsSoundRecorder}
use Rattle.metric_bounds.proofs.Budgets.{amount_limited}
use Rattle.metric_bounds.proofs.amounts.add_recorders.Goals as goal

pub loop-recorder-init : goal.loop-recorder-init
loop-recorder-init c = record {
  long = refl;
  done = λ i inside. omega arith;
  bounded = λ i inside. let low = c.requires.low i in omega arith;
}

pub loop-recorder-preserved : goal.loop-recorder-preserved
loop-recorder-preserved c =
    let recorders = c.args.recorders.now in
    let n = length c.args.totals.now in
    let j = c.loop-recorder.recorder-index in
    let r = c.recorder-item.result in
    let within : j < length recorders = c.loop-recorder-test.true in
    let own = subst (IsSoundRecorder n) (sym c.recorder-item.is) (All-get_or (IsSoundRecorder n) recorders j r within c.requires.known) in
    let long : length c.loop-recorder.totals ≡ n = c.loop-recorder.invariant.long in
    let added = λ (i : ℕ) (inside : i < n). (
    let more : i < length c.loop-recorder.totals = omega arith in
    let now : get_or c.add_budgets.new.totals i 0 ≡ get_or c.loop-recorder.totals i 0 + amount_of r i =
    c.add_budgets.ensures.added i more ∙ ap (λ (bs : List Budget). get_or c.loop-recorder.totals i 0 + amount_in (find (is_budget i) bs)) c.as_slice.ensures.items in
    now) in
    record {
      long = c.add_budgets.ensures.length ∙ long;
      done = λ i inside.
          let now = added i inside in
          let before = c.loop-recorder.invariant.done i inside in
          let one = ap (λ (x : Recorder). sum_by (λ recorder. amount_of recorder i) (take j recorders) + amount_of x i) c.recorder-item.is in
          let more = sum_by_more (λ recorder. amount_of recorder i) recorders j r within in
          omega arith;
      bounded = λ i inside.
          let now = added i inside in
          let before = c.loop-recorder.invariant.bounded i inside in
          let few = amount_limited n i r.budgets own.budgets.each in
          omega arith;
    }

pub returns-clause-added : goal.returns-clause-added
returns-clause-added c = λ i inside.
    c.loop-recorder.invariant.done i inside
    ∙ ap (λ (rs : List Recorder). sum_by (λ recorder. amount_of recorder i) rs + get_or c.args.totals.now i 0)
    (take_all c.loop-recorder.recorder-index c.args.recorders.now (omega arith))
