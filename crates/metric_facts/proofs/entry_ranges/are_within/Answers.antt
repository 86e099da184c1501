-- the places so far are all
use Rattle.std.proofs.Common.{◌≡◌, ◌∙◌, ℕ, ap, arith}
use Rattle.std.proofs.lemmas.Bool.Decides.{nat_tests}
use Rattle.metric_facts.specs.EntryRanges.{are_within}
use Rattle.metric_facts.proofs.entry_ranges.are_within.Goals as goal

pub returns : goal.returns
returns c =
    let last : c.loop-place.place ≡ 8 = grind (arith, nat_tests, c.loop-place.auto.place-end, c.loop-place-test.false) in
    c.loop-place.invariant ∙ ap (λ (n : ℕ). are_within n c.args.least.now c.args.most.now c.args.set.now) last
