-- the flags of all rows
use Rattle.std.proofs.Common.{◌≡◌, ℕ, false, List, take, take_all, ap, ◌∙◌, arith}
use Rattle.std.proofs.lemmas.List.FromFn.{fill_by_all}
use Rattle.metric_lint.specs.Unused.{is_used}
use Rattle.metric_lint.proofs.unused.used_values.Goals as goal

pub returns : goal.returns
returns c =
    let rows = c.args.rows.now in
    let all : take c.loop-row.row-index rows ≡ rows = take_all c.loop-row.row-index rows (omega arith) in
    c.from_vec.ensures
    ∙ fill_by_all (is_used rows c.args.key) c.loop-row.flags.items c.args.count false c.loop-row.invariant.long
    (λ i within. c.loop-row.invariant.noted i within ∙ ap (λ (s : List (List ℕ)). is_used s c.args.key i) all)
