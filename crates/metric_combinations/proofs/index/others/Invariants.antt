-- Of the rows so far those are kept to which the trie does not lead.
use Rattle.std.proofs.Common.{◌≡◌, ℕ, List, take}
use Rattle.std.specs.BTreeSet.{contains}
use Rattle.std.specs.Cmp.Lexicographic.{slice_cmp}
use Rattle.std.specs.List.{list_any}
use Rattle.std.specs.Ordering.{nat_cmp}
use Rattle.metric_combinations.specs.Tries.{finds}
use Rattle.metric_combinations.proofs.Finding.{is_other}
use Rattle.metric_combinations.proofs.index.others.Given as goal

abbrev pub invariant-loop-row : goal.invariant-loop-row
invariant-loop-row l = (set : List ℕ) → contains (slice_cmp nat_cmp) l.others set ≡ list_any (is_other (finds l.trie l.rows) set) (take l.row-index l.rows)
