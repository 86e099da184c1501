-- the rows to which the trie leads, and the others, are the rows
use Rattle.std.proofs.Common.{◌<◌, ◌||◌, ℕ, true, false, BTreeSet, List, length, take, sym, ap, ◌∙◌, arith}
use Rattle.std.proofs.lemmas.List.{take_all}
use Rattle.std.specs.BTreeSet.{contains}
use Rattle.std.specs.Cmp.Lexicographic.{slice_cmp}
use Rattle.std.specs.List.{list_any}
use Rattle.std.specs.Ordering.{nat_cmp}
use Rattle.metric_combinations.specs.Tries.{end_of, finds}
use Rattle.metric_combinations.proofs.Finding.{found_is_row, found_or_other, is_other, one_more_other}
use Rattle.metric_combinations.proofs.index.others.Goals as goal
use Rattle.metric_combinations.proofs.index.others.Goals.{then-not-finds+in_ok-insert, else-not-finds}

pub loop-row-preserved : goal.loop-row-preserved
loop-row-preserved c = λ set.
    let found = finds c.args.trie.now c.args.rows.now in
    let old = contains (slice_cmp nat_cmp) c.loop-row.others set in
    let new = contains (slice_cmp nat_cmp) c.if-not-finds.others set in
    let below : c.loop-row.row-index < length c.args.rows.now = omega arith in
    elim c.if-not-finds.branch [
      | then-not-finds+in_ok-insert w ↦
          one_more_other found c.args.rows.now c.loop-row.row-index set false old new below (sym w.if-not-finds.ensures) (c.loop-row.invariant set)
          (ap (λ (s : BTreeSet (List ℕ)). contains (slice_cmp nat_cmp) s set) w.others-is ∙ w.in_ok-insert.ensures.updates.0 set)
      | else-not-finds w ↦
          one_more_other found c.args.rows.now c.loop-row.row-index set true old new below (sym w.if-not-finds.ensures) (c.loop-row.invariant set)
          (ap (λ (s : BTreeSet (List ℕ)). contains (slice_cmp nat_cmp) s set) w.others-is)
    ]

pub returns : goal.returns
returns c = λ set.
    let trie = c.args.trie.now in
    let rows = c.args.rows.now in
    let whole = take_all c.loop-row.row-index rows c.loop-row-test.false in
    ap (λ b. finds trie rows set || b) (c.loop-row.invariant set ∙ ap (λ (rs : List (List ℕ)). list_any (is_other (finds trie rows) set) rs) whole)
    ∙ found_or_other (finds trie rows) rows set (found_is_row rows set (end_of trie.steps.items trie.root (take trie.depth set)))
