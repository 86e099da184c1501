-- a full set weighs as much as its rank and the least entries
use Rattle.std.proofs.Common.{◌≡◌, ◌-◌, true, sym, ap, subst, ◌∙◌, arith}
use Rattle.metric_facts.specs.Facts.{is_full_set}
use Rattle.metric_facts.specs.Ranks.{rank}
use Rattle.metric_dense.proofs.Weighing.{table_ranks}
use Rattle.metric_dense.proofs.ranks.Ranks.rank.Goals as goal

pub overflow_sub-result : goal.overflow_sub-result
overflow_sub-result c =
    let weighs = table_ranks c.self.inside.kept c.self.inside.keys c.self.inside.weights c.self.inside.base c.args.set.now c.self.invariant (subst (λ r. is_full_set r.keys c.args.set.now ≡ true) (sym c.self.view_is) c.requires) in
    omega (arith, weighs, c.weighted.ensures)

pub returns : goal.returns
returns c =
    let weighs = table_ranks c.self.inside.kept c.self.inside.keys c.self.inside.weights c.self.inside.base c.args.set.now c.self.invariant (subst (λ r. is_full_set r.keys c.args.set.now ≡ true) (sym c.self.view_is) c.requires) in
    let own : c.weighted.result - c.self.inside.base ≡ rank c.self.inside.kept c.self.inside.keys c.args.set.now = omega (arith, weighs, c.weighted.ensures) in
    own ∙ ap (λ r. rank r.kept r.keys c.args.set.now) c.self.view_is
