use Rattle.std.proofs.Common.{◌≡◌, ℕ, ◌+◌, ◌-◌, ◌^◌, pos, ℤ, Bool, true, false, cond, length, get_or, rules, subst, sym, refl, arith, ◌∙◌, w64, to_z, of_z, SFits}
use Rattle.std.specs.Prelude.{int_lt}
use Rattle.std.proofs.lemmas.Int.{to_z-of_z}
use Rattle.std.proofs.lemmas.Nat.{pow_pos}
use Rattle.metric_aggregate.proofs.RisingLaws.{rising_partitioned, IsParted, parted_first, parted_half, parted_count, power_half}
use Rattle.metric_aggregate.specs.Value.{bucket_of}
use Rattle.metric_aggregate.proofs.search.count_less.Goals as goal
use Rattle.metric_aggregate.proofs.search.count_less.Goals.{then-less, else-less}

pub loop-level-init : goal.loop-level-init
loop-level-init c =
    let xs = c.args.numbers.now in
    let value : ℤ = to_z w64 (of_z w64 c.args.value) in
    let less : ℤ → Bool = λ number. int_lt number value in
    let width : ℕ = 2 ^ c.ilog2-level.result in
    let fits : SFits w64 (get_or xs (c.width_of-width.result - 1) (pos 0)) = search rules in
    let tested : int_lt (to_z w64 (of_z w64 (get_or xs (c.width_of-width.result - 1) (pos 0)))) value ≡ less (get_or xs (width - 1) (pos 0)) =
    (λ i. less (to_z-of_z w64 _ fits i)) ∙ (λ i. less (get_or xs (c.width_of-width.ensures i - 1) (pos 0))) in
    let first = λ (answer : Bool) (e : answer ≡ less (get_or xs (width - 1) (pos 0))) (f : c.if-less.found ≡ cond answer (length xs + 1 - width) 0).
    parted_first less xs width c.if-less.found answer (rising_partitioned xs value c.requires) (pow_pos c.ilog2-level.result) c.ilog2-level.ensures.power_le c.ilog2-level.ensures.next_power_gt e f in
    record {
      small = c.ilog2-level.ensures.bound;
      parted = elim c.if-less.branch [
        | then-less w ↦ first true (sym w.if-less.true ∙ tested) (w.found-is ∙ (λ i. length xs + 1 - c.width_of-width.ensures i))
        | else-less w ↦ first false (sym w.if-less.false ∙ tested) w.found-is
      ];
    }

pub loop-level-preserved : goal.loop-level-preserved
loop-level-preserved c =
    let xs = c.args.numbers.now in
    let value : ℤ = to_z w64 (of_z w64 c.args.value) in
    let less : ℤ → Bool = λ number. int_lt number value in
    let half : ℕ = 2 ^ (c.loop-level.level - 1) in
    let fits : SFits w64 (get_or xs (c.loop-level.found + c.width_of-half.result - 1) (pos 0)) = search rules in
    let step : c.step_of-found.result ≡ cond (less (get_or xs (c.loop-level.found + half - 1) (pos 0))) half 0 =
    c.step_of-found.ensures ∙ (λ i. cond (less (to_z-of_z w64 _ fits i)) half 0) ∙ (λ i. cond (less (get_or xs (c.loop-level.found + c.width_of-half.ensures i - 1) (pos 0))) half 0) in
    record {
      small = omega (arith, c.loop-level.invariant.small);
      parted = parted_half less xs c.loop-level.found half (2 ^ c.loop-level.level) c.step_of-found.result _
          (rising_partitioned xs value c.requires) (pow_pos (c.loop-level.level - 1)) (power_half c.loop-level.level (omega (arith, c.loop-level-test.true))) c.loop-level.invariant.parted refl step;
    }

pub returns : goal.returns
returns c =
    let xs = c.args.numbers.now in
    let less : ℤ → Bool = λ number. int_lt number (to_z w64 (of_z w64 c.args.value)) in
    let ended : c.loop-level.level ≡ 0 = omega (arith, c.loop-level-test.false) in
    parted_count less xs c.loop-level.found (subst (λ (level : ℕ). IsParted less xs c.loop-level.found (c.loop-level.found + 2 ^ level - 1)) ended c.loop-level.invariant.parted)
    ∙ (λ i. bucket_of xs (to_z-of_z w64 c.args.value c.ranges.value i))
