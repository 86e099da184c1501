-- what is known is what the rows are
use Rattle.std.specs.BTreeSet.{contains}
use Rattle.std.specs.Cmp.Lexicographic.{slice_cmp}
use Rattle.std.specs.Ordering.{nat_cmp}
use Rattle.metric_combinations.proofs.Finding.{one_more_row}
use Rattle.metric_combinations.proofs.rows.CombinationRows.push.Goals as goal

pub invariant_of-self-then-new : goal.invariant_of-self-then-new
invariant_of-self-then-new c =
    λ set. rw (c.push_reserved.ensures.items, c.reserve.ensures.items) (one_more_row c.self.inside.rows.items c.args.row set (contains (slice_cmp nat_cmp) c.self.inside.known set) (contains (slice_cmp nat_cmp) c.insert.new.self set) (c.self.invariant set) (c.in_ok-new.ensures.updates.0 set))
