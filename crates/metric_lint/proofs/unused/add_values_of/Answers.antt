-- one value more
use Rattle.std.proofs.Common.{◌≡◌, ℕ, Bool, false, ◌++◌, not, length, get_or, ap, ◌∙◌, arith}
use Rattle.std.specs.List.{flat_map, range_with_len}
use Rattle.std.proofs.lemmas.List.FromFn.{get_or-map-range_with_len, length-map-range_with_len}
use Rattle.metric_lint.specs.declared.remark.Remark.TheVariants.{UnusedValue}
use Rattle.metric_lint.specs.Unused.{is_used, value_unused}
use Rattle.metric_lint.specs.When.{when}
use Rattle.metric_resolve.proofs.Numbers.{flat_map_turn}
use Rattle.metric_lint.proofs.Lists.{table_at, table_length}
use Rattle.metric_lint.proofs.unused.add_values_of.Goals as goal

pub bounds-as_slice-value : goal.bounds-as_slice-value
bounds-as_slice-value c =
    let long = table_length (is_used c.args.rows.now c.args.of.key) c.args.count c.as_slice.result.now (c.as_slice.ensures ∙ c.in_ok-used.ensures) in
    omega arith

pub loop-value-preserved : goal.loop-value-preserved
loop-value-preserved c =
    let rows = c.args.rows.now in
    let of = c.args.of in
    let n = c.loop-value.value in
    let before = c.loop-value.remarks in
    let made = c.as_slice.ensures ∙ c.in_ok-used.ensures in
    flat_map_turn (value_unused rows of.instrument of.key) n c.args.remarks.now before c.add_when.new.remarks c.loop-value.invariant
    (c.in_ok-add_when.ensures
    ∙ ap (λ (b : Bool). before ++ when (not b) (UnusedValue of.instrument of.key n))
    (table_at (is_used rows of.key) c.args.count c.as_slice.result.now made n _ (omega arith)))

pub returns : goal.returns
returns c =
    let all : c.loop-value.value ≡ c.args.count = omega arith in
    c.loop-value.invariant
    ∙ ap (λ (n : ℕ). c.args.remarks.now ++ flat_map (value_unused c.args.rows.now c.args.of.instrument c.args.of.key) (range_with_len 0 n)) all
